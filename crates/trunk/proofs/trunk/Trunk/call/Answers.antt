use Rattle.trunk.proofs.EachEvent.OneCall.{call_keeps, call_other, call_tells}
use Rattle.trunk.proofs.trunk.Trunk.call.Goals as goal

pub invariant_of-self : goal.invariant_of-self
invariant_of-self c = (
  rw c.in-Ok.ensures.was c.self.invariant.0,
  rw c.in-Ok.ensures.is (call_keeps c.args.call c.args.side c.self.inside.parts.is
      c.self.invariant.1 (rw (← c.self.view_is) at c.requires.may) c.call.ensures.named),
)

pub returns-in-Ok-clause-told : goal.returns-in-Ok-clause-told
returns-in-Ok-clause-told c =
    rw (← c.self.view_is, c.in-Ok.ensures.is) (call_tells c.args.call c.args.side
    c.self.inside.parts.is c.self.invariant.1 (rw (← c.self.view_is) at c.requires.may))

pub returns-in-Ok-clause-other : goal.returns-in-Ok-clause-other
returns-in-Ok-clause-other c =
    rw (← c.self.view_is, c.in-Ok.ensures.is)
    (call_other c.args.call c.args.side c.self.inside.parts.is)
