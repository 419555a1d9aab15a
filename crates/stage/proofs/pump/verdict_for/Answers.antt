use Rattle.std.proofs.Common.{subst}
use Rattle.journal.specs.Shapes.{Shape}
use Rattle.link_laws.specs.Ends.{IsLinkOf}
use Rattle.stage.proofs.Plans.PumpsRule.{link-named}
use Rattle.stage.proofs.pump.verdict_for.Goals as goal

pub plan-requires : goal.plan-requires
plan-requires c =
    link-named c.args.script.now c.links.ensures.script c.args.link
    (subst (λ (s : Shape). IsLinkOf s c.args.link) c.requires.shape c.requires.declared)
