use Rattle.carrier.proofs.Resting.{at_rest}
use Rattle.carrier.proofs.carrier.Carrier.undo.Goals as goal

pub returns-clause-grown : goal.returns-clause-grown
returns-clause-grown c =
    λ from. at_rest from c.self.inside.link.was c.undo.new.self c.undo.ensures
