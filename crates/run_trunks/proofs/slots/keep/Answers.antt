use Rattle.std.proofs.Common.{ap, sym, ◌∙◌}
use Rattle.linx_base.specs.Both.{Both}
use Rattle.trunk.specs.Events.{TrunkState}
use Rattle.run_trunks.proofs.Placed.{is_read, is_stays, was_put}
use Rattle.run_trunks.proofs.slots.keep.Goals as goal

pub returns-clause-is : goal.returns-clause-is
returns-clause-is c =
    is_stays c.args.trunks.now c.args.place c.index-trunks-place.result c.keep.new.self
    (ap (λ (t : Both TrunkState). t.is) c.keep.ensures.is)

pub returns-clause-was : goal.returns-clause-was
returns-clause-was c =
    was_put c.args.trunks.now c.args.place c.index-trunks-place.result c.keep.new.self _
    (ap (λ (t : Both TrunkState). t.was) c.keep.ensures.is
    ∙ sym (is_read c.args.trunks.now c.args.place c.index-trunks-place.result c.requires))
