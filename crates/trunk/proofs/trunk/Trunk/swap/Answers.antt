use Rattle.trunk.proofs.EachEvent.BothSides.{events_keep}
use Rattle.trunk.proofs.trunk.Trunk.swap.Goals as goal

pub invariant_of-self : goal.invariant_of-self
invariant_of-self c = (
  rw c.swap.ensures.was c.self.invariant.0,
  rw c.swap.ensures.is
      (events_keep.swapped c.args.from c.args.k c.args.n c.self.inside.parts.is
      (rw (← c.self.view_is) at c.requires.first) (rw (← c.self.view_is) at c.requires.second)
      c.self.invariant.1),
)
