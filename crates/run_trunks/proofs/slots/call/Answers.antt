use Rattle.std.proofs.Common.{◌∙◌}
use Rattle.trunk.specs.Calls.{makes}
use Rattle.run_trunks.proofs.Placed.{is_changed, was_stays}
use Rattle.run_trunks.proofs.slots.call.Goals as goal

pub returns-in-Ok-clause-is : goal.returns-in-Ok-clause-is
returns-in-Ok-clause-is c =
    is_changed c.args.trunks.now c.args.place c.index-trunks-place.result
    (makes c.args.call c.args.side) c.call.new.self c.requires.within c.in-Ok.ensures.is

pub returns-in-Ok-clause-was : goal.returns-in-Ok-clause-was
returns-in-Ok-clause-was c =
    was_stays c.args.trunks.now c.args.place c.index-trunks-place.result c.call.new.self
    c.in-Ok.ensures.was

pub returns-in-Err-clause-was : goal.returns-in-Err-clause-was
returns-in-Err-clause-was c =
    c.undo_all.ensures.was
    ∙ was_stays c.args.trunks.now c.args.place c.index-trunks-place.result c.call.new.self
    c.in-Err.ensures.was

pub returns-in-Err-clause-err : goal.returns-in-Err-clause-err
returns-in-Err-clause-err c =
    c.undo_all.ensures.is
    ∙ was_stays c.args.trunks.now c.args.place c.index-trunks-place.result c.call.new.self
    c.in-Err.ensures.was
