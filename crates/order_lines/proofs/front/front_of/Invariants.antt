use Rattle.std.proofs.Common.{◌≡◌, ◌+◌, ◌≤◌, length}
use Rattle.script_words.specs.Lines.{lines_of}
use Rattle.order_lines.specs.Fronts.{front_from, front_of}
use Rattle.order_lines.proofs.front.front_of.Given as goal

-- the lines so far, and the rest
abbrev pub invariant-lines : goal.invariant-lines
invariant-lines l = record {
  goes : front_from l.makers l.front.items l.line (lines_of l.rest) ≡ front_of l.makers l.bytes;
  few : length l.front.items ≤ 200000;
  lines : l.line + length l.rest ≤ length l.bytes;
}

abbrev pub decreases-lines : goal.decreases-lines
decreases-lines l = length l.rest
