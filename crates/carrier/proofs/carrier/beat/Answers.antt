use Rattle.carrier.proofs.Delivering.{events_tell}
use Rattle.carrier.proofs.Links.{events_keep}
use Rattle.carrier.proofs.carrier.beat.Goals as goal

pub returns-clause-keeps : goal.returns-clause-keeps
returns-clause-keeps c =
    rw c.in_ok-ticked.ensures.is (events_keep.ticked c.args.side c.args.link.now.is
    c.requires.keeps)

pub returns-clause-told : goal.returns-clause-told
returns-clause-told c =
    rw (c.in_ok-ticked.ensures.is, c.in_ok-ticked.ensures.ticked)
    (events_tell.tick c.args.side c.args.link.now.is)

pub returns-clause-other : goal.returns-clause-other
returns-clause-other c =
    rw c.in_ok-ticked.ensures.is (events_tell.tick_other c.args.side c.args.link.now.is)
