use Rattle.carrier.specs.Events.{new_link}
use Rattle.carrier.proofs.Links.{events_keep}
use Rattle.carrier.proofs.Resting.{at_rest}
use Rattle.carrier.proofs.carrier.Carrier.new.Goals as goal

pub invariant_of-result : goal.invariant_of-result
invariant_of-result c =
    let keeps =
    events_keep.begins c.args.window c.args.piece c.requires.window c.requires.piece.0 in
    rw c.new.ensures (keeps, keeps)

pub returns-clause-grown : goal.returns-clause-grown
returns-clause-grown c =
    λ from. at_rest from (new_link c.args.window c.args.piece) c.new.result c.new.ensures
