use Rattle.link_check.proofs.Coming.{legal-by-laws}
use Rattle.link_check.proofs.laws.steps_are_legal_by_laws.Goals as goal

pub returns : goal.returns
returns c = legal-by-laws
