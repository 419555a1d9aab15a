use Rattle.std.proofs.Common.{◌≡◌, take}
use Rattle.fragmenter.specs.Holding.{joined}
use Rattle.fragmenter.proofs.joiner.join_copied.Given as goal

-- the bytes so far are those of the parts so far
abbrev pub invariant-loop-part : goal.invariant-loop-part
invariant-loop-part l = l.bytes ≡ joined (take l.part-index l.parts)
