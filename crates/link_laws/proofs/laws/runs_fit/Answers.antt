use Rattle.link_laws.proofs.AllLinks.NodesFit.{runs_fit}
use Rattle.link_laws.proofs.laws.runs_fit.Goals as goal

pub returns : goal.returns
returns c = runs_fit
