use Rattle.std.proofs.Common.{◌≡◌, ◌++◌, flat_map, length}
use Rattle.turn_lines.specs.Text.{in_lines, line_text}
use Rattle.turn_lines.proofs.text.write_lines.Given as goal

-- the lines so far, and those of the rest
abbrev pub invariant-lines : goal.invariant-lines
invariant-lines l =
    l.out.items ++ flat_map line_text (in_lines 0 l.rest)
    ≡ l.initial.out.items ++ flat_map line_text (in_lines 0 l.rows)

abbrev pub decreases-lines : goal.decreases-lines
decreases-lines l = length l.rest
