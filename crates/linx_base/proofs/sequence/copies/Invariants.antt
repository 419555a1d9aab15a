use Rattle.std.proofs.Common.{◌≡◌, take}
use Rattle.linx_base.proofs.sequence.copies.Given as goal

-- the copies so far are those of the values so far
abbrev pub invariant-loop-value : goal.invariant-loop-value
invariant-loop-value g l = l.made.items ≡ take l.value-index l.values
