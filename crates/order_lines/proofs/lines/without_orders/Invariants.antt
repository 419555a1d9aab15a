use Rattle.std.proofs.Common.{◌≡◌, ◌++◌, length, flat_map}
use Rattle.script_words.specs.Lines.{lines_of}
use Rattle.order_lines.specs.Lines.{plain_line, without_orders}
use Rattle.order_lines.proofs.lines.without_orders.Given as goal

-- the lines so far, and those of the rest
abbrev pub invariant-lines : goal.invariant-lines
invariant-lines l = l.plain.items ++ flat_map plain_line (lines_of l.rest) ≡ without_orders l.bytes

abbrev pub decreases-lines : goal.decreases-lines
decreases-lines l = length l.rest
