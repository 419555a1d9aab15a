use Rattle.carrier.specs.Spelling.{IsSpelled, packet_at}
use Rattle.carrier.proofs.Places.{all_left, map_removed}
use Rattle.carrier.proofs.Spelled.{bytes_grown}
use Rattle.carrier.proofs.flight.Flight.lose.Goals as goal

pub lose-requires-clause-grown : goal.lose-requires-clause-grown
lose-requires-clause-grown c =
    bytes_grown _ _ c.self.invariant.0 c.self.invariant.1
    (rw (← c.self.view_is) at c.requires.grown)

pub invariant_of-self : goal.invariant_of-self
invariant_of-self c = (
  rw c.lose.ensures.was c.self.invariant.0,
  rw c.lose.ensures.is
      (all_left IsSpelled c.self.inside.wire.is c.args.k c.self.invariant.1),
)

pub returns-clause-is : goal.returns-clause-is
returns-clause-is c =
    rw (c.lose.ensures.is, ← c.self.view_is)
    (map_removed packet_at c.self.inside.wire.is c.args.k)
