use Rattle.link_laws.proofs.Runs.{runs_keep_promises}
use Rattle.link_laws.proofs.laws.runs_keep_promises.Goals as goal

pub returns : goal.returns
returns c = runs_keep_promises
