use Rattle.run_states.proofs.States.{runs_reach_one_state}
use Rattle.run_states.proofs.laws.runs_reach_one_state.Goals as goal

pub returns : goal.returns
returns c = runs_reach_one_state
