use Rattle.ethcm_end.specs.Rules.{offer_of}
use Rattle.carrier.specs.Events.{drained}
use Rattle.carrier.proofs.Noting.{noted_offered}
use Rattle.carrier.proofs.half.Half.offer.Goals as goal

pub returns-clause-half : goal.returns-clause-half
returns-clause-half c =
    rw (
      ← c.self.view_is,
      c.in_ok-send_all.ensures.end,
      c.in_ok-offer.ensures.is,
      c.push.ensures.is,
      c.in_ok-copy.ensures,
    ) (noted_offered c.self.inside.end.is
    (drained (offer_of c.self.inside.end.is c.args.message.now)) c.self.inside.notes.is
    c.args.message.now)
