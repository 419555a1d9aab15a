use Rattle.std.proofs.Common.{Option, subst}
use Rattle.linx_base.specs.declared.identity.LinkNo.{LinkNo}
use Rattle.stage.specs.Settlings.{GoesOnAfter}
use Rattle.stage.proofs.acting.act.Goals as goal

pub returns-in-Ok-go_on-clause-came : goal.returns-in-Ok-go_on-clause-came
returns-in-Ok-go_on-clause-came c = record {
  between = c.step.new.self;
  stepped = c.in-Ok.ensures.ok;
  fixed = c.in-Ok.ensures.fixed;
  goes_on = subst
      (λ (o : Option LinkNo). GoesOnAfter o c.args.actor c.step.new.self c.go_on.new.fabric)
      c.settled_by-settled.ensures c.in-Ok-go_on.ensures.ok;
}
