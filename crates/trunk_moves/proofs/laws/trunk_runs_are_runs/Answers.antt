use Rattle.trunk_moves.proofs.Runs.{trunk_runs_are_runs}
use Rattle.trunk_moves.proofs.laws.trunk_runs_are_runs.Goals as goal

pub returns : goal.returns
returns c = trunk_runs_are_runs
