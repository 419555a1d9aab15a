use Rattle.carrier.proofs.Delivering.{events_tell}
use Rattle.carrier.proofs.Links.{events_keep}
use Rattle.carrier.proofs.carrier.Carrier.deliver.Goals as goal

pub invariant_of-self : goal.invariant_of-self
invariant_of-self c = (
  rw c.in-Ok.ensures.was c.self.invariant.0,
  rw c.in-Ok.ensures.is (events_keep.delivered c.args.from c.args.k c.args.keep
      c.self.inside.link.is c.self.invariant.1),
)

pub returns-in-Ok-clause-told : goal.returns-in-Ok-clause-told
returns-in-Ok-clause-told c =
    rw (← c.self.view_is, c.in-Ok.ensures.is, c.in-Ok.ensures.handed) (events_tell.packet
    c.args.from c.args.k c.args.keep c.self.inside.link.is c.self.invariant.1
    (rw (← c.self.view_is) at c.requires.within))

pub returns-in-Ok-clause-told_down : goal.returns-in-Ok-clause-told_down
returns-in-Ok-clause-told_down c =
    rw (← c.self.view_is, c.in-Ok.ensures.handed) (events_tell.packet_down c.args.from c.args.k
    c.self.inside.link.is c.self.invariant.1 (rw (← c.self.view_is) at c.requires.within))
