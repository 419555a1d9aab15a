use Rattle.trunk.proofs.EachEvent.BothSides.{events_keep}
use Rattle.trunk.proofs.EachEvent.Trunks.{turns_tell}
use Rattle.trunk.proofs.trunk.Trunk.tick.Goals as goal

pub invariant_of-self : goal.invariant_of-self
invariant_of-self c = (
  rw c.in-Ok.ensures.was c.self.invariant.0,
  rw c.in-Ok.ensures.is
      (events_keep.ticked c.args.side c.self.inside.parts.is c.self.invariant.1),
)

pub returns-in-Ok-clause-told : goal.returns-in-Ok-clause-told
returns-in-Ok-clause-told c =
    rw (← c.self.view_is, c.in-Ok.ensures.is, c.in-Ok.ensures.ticked) (turns_tell.tick c.args.side
    c.self.inside.parts.is c.self.invariant.1)
