use Rattle.std.proofs.Common.{◌≡◌, replicate}
use Rattle.fabric.proofs.fabric.boots_of.Given as goal

-- those so far
abbrev pub invariant-loop-place : goal.invariant-loop-place
invariant-loop-place l = l.booted.items ≡ replicate l._place 1
