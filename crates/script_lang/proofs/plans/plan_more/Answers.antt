use Rattle.std.proofs.Common.{sym}
use Rattle.linx_base.specs.declared.identity.Side.TheVariants.{First, Second}
use Rattle.script_lang.proofs.Verdicts.{planned_at_of}
use Rattle.script_lang.proofs.plans.plan_more.Goals as goal

pub returns-in_ok-push-in-First-clause-ok : goal.returns-in_ok-push-in-First-clause-ok
returns-in_ok-push-in-First-clause-ok c =
    rw (c.in-First.is, c.in_ok-push-in-First.ensures.ok)
    (planned_at_of c.args.plans.now.items c.args.place First c.args.verdict
    c.index_mut-plans.result.now c.requires (sym c.index_mut-plans.ensures.value))

pub returns-in_ok-push-in-Second-clause-ok : goal.returns-in_ok-push-in-Second-clause-ok
returns-in_ok-push-in-Second-clause-ok c =
    rw (c.in-Second.is, c.in_ok-push-in-Second.ensures.ok)
    (planned_at_of c.args.plans.now.items c.args.place Second c.args.verdict
    c.index_mut-plans.result.now c.requires (sym c.index_mut-plans.ensures.value))
