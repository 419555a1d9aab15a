use Rattle.std.proofs.Common.{◌≡◌, take}
use Rattle.trunk.specs.Calls.{makes}
use Rattle.run_trunks.specs.Changes.{each_does}
use Rattle.run_trunks.specs.States.{is_of, was_of}
use Rattle.run_trunks.proofs.slots.call_each.Given as goal

-- the sides of the links so far were called
abbrev pub invariant-loop-place : goal.invariant-loop-place
invariant-loop-place l = record {
  is : is_of l.trunks ≡ each_does (take l.place l.links) l.node.0 (makes l.call)
      (is_of l.initial.trunks);
  was : was_of l.trunks ≡ was_of l.initial.trunks;
}
