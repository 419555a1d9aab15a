use Rattle.trunk.specs.Events.{new_trunk}
use Rattle.trunk.proofs.EachEvent.BothSides.{events_keep}
use Rattle.trunk.proofs.EachEvent.AtRest.{rests}
use Rattle.trunk.proofs.trunk.Trunk.new.Goals as goal

pub invariant_of-result : goal.invariant_of-result
invariant_of-result c =
    let keeps =
    events_keep.begins c.args.window c.args.piece c.requires.window c.requires.piece.0 in
    rw c.new.ensures (keeps, keeps)

pub returns-clause-grown : goal.returns-clause-grown
returns-clause-grown c =
    λ from. rests from (new_trunk c.args.window c.args.piece) c.new.result c.new.ensures
