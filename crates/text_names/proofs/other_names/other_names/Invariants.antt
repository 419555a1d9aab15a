use Rattle.std.proofs.Common.{◌≡◌, drop, map}
use Rattle.text_names.specs.OtherNames.{no_names, other_lines}
use Rattle.text_names.proofs.other_names.other_names.Given as goal

-- the names so far and those of the lines that are left are those of all
abbrev pub invariant-loop-line : goal.invariant-loop-line
invariant-loop-line l =
    other_lines l.told l.others (map (λ w. w.now) (drop l.line-index l.lines))
    ≡ other_lines l.told no_names (map (λ w. w.now) l.lines)
