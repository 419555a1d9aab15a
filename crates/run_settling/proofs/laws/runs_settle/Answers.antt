use Rattle.run_settling.proofs.Settling.{runs_settle}
use Rattle.run_settling.proofs.laws.runs_settle.Goals as goal

pub returns : goal.returns
returns c = runs_settle
