use Rattle.std.proofs.Common.{◌≡◌}
use Rattle.work_gen.specs.Generated.{built}
use Rattle.work_gen.proofs.building.add_actors.Given as goal

-- the actors over the links so far
abbrev pub invariant-loop-done : goal.invariant-loop-done
invariant-loop-done l = l.script ≡ built l.n 4 3 l.done
