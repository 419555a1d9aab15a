use Rattle.trunk_moves.proofs.Runs.{trunk_runs_grant}
use Rattle.trunk_moves.proofs.laws.trunk_runs_grant.Goals as goal

pub returns : goal.returns
returns c = trunk_runs_grant
