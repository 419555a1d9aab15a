use Rattle.std.proofs.Common.{◌≡◌, ◌++◌, flat_map, length, map}
use Rattle.script_words.specs.Lines.{lines_of}
use Rattle.run_outcomes.specs.Differences.{line_told, lines_told}
use Rattle.run_outcomes.proofs.differences.lines_told.Given as goal

-- the lines so far, and those of the rest
abbrev pub invariant-lines : goal.invariant-lines
invariant-lines l =
    map (λ w. w.now) l.lines.items ++ flat_map (line_told l.name) (lines_of l.rest)
    ≡ lines_told l.name l.outcome

abbrev pub decreases-lines : goal.decreases-lines
decreases-lines l = length l.rest
