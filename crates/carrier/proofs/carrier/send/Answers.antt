use Rattle.carrier.proofs.Delivering.{events_tell}
use Rattle.carrier.proofs.Links.{events_keep}
use Rattle.carrier.proofs.carrier.send.Goals as goal

pub returns-clause-keeps : goal.returns-clause-keeps
returns-clause-keeps c =
    rw c.in_ok-offer.ensures.is (events_keep.offered c.args.side c.args.message.now
    c.args.link.now.is c.requires.up c.requires.message c.requires.keeps)

pub returns-clause-told : goal.returns-clause-told
returns-clause-told c =
    rw c.in_ok-offer.ensures.is (events_tell.offer c.args.side c.args.message.now
    c.args.link.now.is c.requires.up c.requires.message c.requires.keeps)

pub returns-clause-other : goal.returns-clause-other
returns-clause-other c =
    rw c.in_ok-offer.ensures.is (events_tell.offer_other c.args.side c.args.message.now
    c.args.link.now.is)
