use Rattle.std.proofs.Common.{sym, ap, subst, ◌∙◌}
use Rattle.linx_base.specs.Sides.{other_of}
use Rattle.linx_base.specs.declared.identity.Side.{Side}
use Rattle.carrier.specs.Events.{HasNextAt}
use Rattle.link_laws.proofs.AllLinks.OthersStay.{other_twice}
use Rattle.run_trunks.specs.States.{trunks_of}
use Rattle.trunk.specs.Events.{HasNumbersLeft}
use Rattle.fabric.proofs.bringing.make_delivery.Goals as goal

pub deliver-requires-clause-counted : goal.deliver-requires-clause-counted
deliver-requires-clause-counted c =
    subst (λ (side : Side). HasNextAt side (trunks_of c.args.trunks.now.is c.args.at.link.0).link)
    (sym (ap other_of c.other.ensures ∙ other_twice c.args.at.side)) c.requires.counted

pub deliver-requires-clause-numbers : goal.deliver-requires-clause-numbers
deliver-requires-clause-numbers c =
    subst (λ (side : Side). HasNumbersLeft side (trunks_of c.args.trunks.now.is c.args.at.link.0))
    (sym (ap other_of c.other.ensures ∙ other_twice c.args.at.side)) c.requires.numbers
