use Rattle.trunk.proofs.EachEvent.BothSides.{events_keep}
use Rattle.trunk.proofs.trunk.Trunk.lose.Goals as goal

pub invariant_of-self : goal.invariant_of-self
invariant_of-self c = (
  rw c.lose.ensures.was c.self.invariant.0,
  rw c.lose.ensures.is
      (events_keep.lost c.args.from c.args.k c.self.inside.parts.is c.self.invariant.1),
)
