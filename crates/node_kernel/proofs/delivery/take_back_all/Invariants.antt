use Rattle.std.proofs.Common.{◌≡◌, ℕ, ◌≤◌, List, length, map, take}
use Rattle.node_kernel.specs.Nodes.{OpenEndpoint, put_all}
use Rattle.node_kernel.specs.Kept.{AreRising, name_entry}
use Rattle.node_kernel.proofs.delivery.take_back_all.Given as goal

-- what the effects from here on delivered is taken back
abbrev pub invariant-loop-left : goal.invariant-loop-left
invariant-loop-left l = record {
  within : l.left ≤ length l.effects;
  rising : AreRising l.endpoints;
  same : map name_entry l.endpoints ≡ map name_entry l.fn.endpoints;
  back : (step : ℕ) (before : List OpenEndpoint) → l.fn.endpoints ≡ put_all step l.effects before
      → l.endpoints ≡ put_all step (take l.left l.effects) before;
}

abbrev pub decreases-loop-left : goal.decreases-loop-left
decreases-loop-left l = l.left
