use Rattle.std.proofs.Common.{◌≡◌}
use Rattle.work_gen.specs.Generated.{built}
use Rattle.work_gen.proofs.building.add_nodes.Given as goal

-- the nodes so far
abbrev pub invariant-loop-done : goal.invariant-loop-done
invariant-loop-done l = l.script ≡ built l.n l.done 0 0
