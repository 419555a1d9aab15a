use Rattle.std.proofs.Common.{◌∙◌, subst}
use Rattle.carrier.specs.Events.{handed_by}
use Rattle.trunk.specs.Events.{IsReading, TrunkState, delivered}
use Rattle.run_trunks.proofs.Placed.{is_changed, is_read, was_stays}
use Rattle.run_trunks.proofs.slots.deliver.Goals as goal

pub returns-in-Ok-clause-is : goal.returns-in-Ok-clause-is
returns-in-Ok-clause-is c heard read =
    is_changed c.args.trunks.now c.args.place c.index-trunks-place.result
    (delivered c.args.from 0 c.args.keep heard) c.deliver.new.self c.requires.within
    (c.in-Ok.ensures.is heard
    (subst (λ (t : TrunkState). IsReading (handed_by c.args.from 0 t.link) heard)
    (is_read c.args.trunks.now c.args.place c.index-trunks-place.result c.requires.within) read))

pub returns-in-Ok-clause-was : goal.returns-in-Ok-clause-was
returns-in-Ok-clause-was c =
    was_stays c.args.trunks.now c.args.place c.index-trunks-place.result c.deliver.new.self
    c.in-Ok.ensures.was

pub returns-in-Err-clause-was : goal.returns-in-Err-clause-was
returns-in-Err-clause-was c =
    c.undo_all.ensures.was
    ∙ was_stays c.args.trunks.now c.args.place c.index-trunks-place.result c.deliver.new.self
    c.in-Err.ensures.was

pub returns-in-Err-clause-err : goal.returns-in-Err-clause-err
returns-in-Err-clause-err c =
    c.undo_all.ensures.is
    ∙ was_stays c.args.trunks.now c.args.place c.index-trunks-place.result c.deliver.new.self
    c.in-Err.ensures.was
