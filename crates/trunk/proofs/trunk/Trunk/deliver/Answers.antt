use Rattle.trunk.proofs.EachEvent.BothSides.{events_keep}
use Rattle.trunk.proofs.EachEvent.Trunks.{packets_tell}
use Rattle.trunk.proofs.trunk.Trunk.deliver.Goals as goal

pub invariant_of-self : goal.invariant_of-self
invariant_of-self c =
    let h = c.in-Ok.ensures.is_read in (
      rw c.in-Ok.ensures.was c.self.invariant.0,
      rw (c.in-Ok.ensures.is h.0 h.1) (events_keep.delivered c.args.from c.args.k c.args.keep h.0
          c.self.inside.parts.is h.1 c.self.invariant.1),
    )

pub returns-in-Ok-clause-told : goal.returns-in-Ok-clause-told
returns-in-Ok-clause-told c =
    let h = c.in-Ok.ensures.is_read in
    rw (← c.self.view_is, c.in-Ok.ensures.is h.0 h.1, c.in-Ok.ensures.up h.0 h.1) (packets_tell.side
    c.args.from c.args.k c.args.keep h.0 c.self.inside.parts.is c.self.invariant.1 h.1)

pub returns-in-Ok-clause-told_notes : goal.returns-in-Ok-clause-told_notes
returns-in-Ok-clause-told_notes c =
    let h = c.in-Ok.ensures.is_read in
    rw (← c.self.view_is, c.in-Ok.ensures.is h.0 h.1, c.in-Ok.ensures.up h.0 h.1)
    (packets_tell.notes c.args.from c.args.k c.args.keep h.0 c.self.inside.parts.is
    c.self.invariant.1 h.1)

pub returns-in-Ok-clause-told_down : goal.returns-in-Ok-clause-told_down
returns-in-Ok-clause-told_down c =
    let h = c.in-Ok.ensures.is_read in
    rw (← c.self.view_is, c.in-Ok.ensures.up h.0 h.1) (packets_tell.down c.args.from c.args.k h.0
    c.self.inside.parts.is c.self.invariant.1)
