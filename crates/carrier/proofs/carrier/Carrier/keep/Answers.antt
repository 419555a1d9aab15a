use Rattle.carrier.proofs.Resting.{at_rest}
use Rattle.carrier.proofs.carrier.Carrier.keep.Goals as goal

pub returns-clause-grown : goal.returns-clause-grown
returns-clause-grown c =
    λ from. at_rest from c.self.inside.link.is c.keep.new.self c.keep.ensures
