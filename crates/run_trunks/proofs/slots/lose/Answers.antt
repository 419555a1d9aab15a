use Rattle.trunk.specs.Events.{lost_from}
use Rattle.run_trunks.proofs.Placed.{is_changed, was_stays}
use Rattle.run_trunks.proofs.slots.lose.Goals as goal

pub returns-clause-is : goal.returns-clause-is
returns-clause-is c =
    is_changed c.args.trunks.now c.args.place c.index-trunks-place.result (lost_from c.args.from 0)
    c.lose.new.self c.requires.within c.lose.ensures.is

pub returns-clause-was : goal.returns-clause-was
returns-clause-was c =
    was_stays c.args.trunks.now c.args.place c.index-trunks-place.result c.lose.new.self
    c.lose.ensures.was
