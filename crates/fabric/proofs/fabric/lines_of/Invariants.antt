use Rattle.std.proofs.Common.{◌≡◌, replicate}
use Rattle.fabric.specs.Lines.{fresh_line}
use Rattle.fabric.proofs.fabric.lines_of.Given as goal

-- those so far
abbrev pub invariant-loop-place : goal.invariant-loop-place
invariant-loop-place l = l.lines.items ≡ replicate l._place fresh_line
