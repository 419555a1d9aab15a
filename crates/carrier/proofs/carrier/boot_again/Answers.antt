use Rattle.carrier.proofs.Delivering.{events_tell}
use Rattle.carrier.proofs.Links.{events_keep}
use Rattle.carrier.proofs.carrier.boot_again.Goals as goal

pub returns-clause-keeps : goal.returns-clause-keeps
returns-clause-keeps c =
    rw c.in_ok-restart.ensures.is (events_keep.restarted c.args.side c.args.boot
    c.args.link.now.is c.requires.later c.requires.keeps)

pub returns-clause-told : goal.returns-clause-told
returns-clause-told c =
    rw c.in_ok-restart.ensures.is (events_tell.restart c.args.side c.args.boot
    c.args.link.now.is c.requires.later)

pub returns-clause-other : goal.returns-clause-other
returns-clause-other c =
    rw c.in_ok-restart.ensures.is (events_tell.restart_other c.args.side c.args.boot
    c.args.link.now.is)
