use Rattle.link_laws.proofs.Runs.{runs_are_legal}
use Rattle.link_laws.proofs.laws.runs_are_legal.Goals as goal

pub returns : goal.returns
returns c = runs_are_legal
