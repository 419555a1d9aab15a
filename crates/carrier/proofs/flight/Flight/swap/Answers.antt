use Rattle.std.proofs.Common.{arith}
use Rattle.std.proofs.lemmas.List.{length-map}
use Rattle.carrier.specs.Spelling.{IsSpelled, packet_at}
use Rattle.carrier.proofs.Places.{all_swapped, map_swapped}
use Rattle.carrier.proofs.Spelled.{bytes_grown}
use Rattle.carrier.proofs.flight.Flight.swap.Goals as goal

pub swap-requires-clause-grown : goal.swap-requires-clause-grown
swap-requires-clause-grown c =
    bytes_grown _ _ c.self.invariant.0 c.self.invariant.1
    (rw (← c.self.view_is) at c.requires.grown)

pub invariant_of-self : goal.invariant_of-self
invariant_of-self c =
    let count = length-map c.self.inside.wire.is packet_at in
    let first = rw (← c.self.view_is) at c.requires.first in
    let second = rw (← c.self.view_is) at c.requires.second in (
      rw c.swap.ensures.was c.self.invariant.0,
      rw c.swap.ensures.is
          (all_swapped IsSpelled c.self.inside.wire.is c.args.k c.args.n (omega arith)
          (omega arith) c.self.invariant.1),
    )

pub returns-clause-is : goal.returns-clause-is
returns-clause-is c =
    rw (c.swap.ensures.is, ← c.self.view_is)
    (map_swapped packet_at c.self.inside.wire.is c.args.k c.args.n)
