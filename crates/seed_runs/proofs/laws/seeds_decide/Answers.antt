use Rattle.seed_runs.proofs.Decided.{seeds_decide}
use Rattle.seed_runs.proofs.laws.seeds_decide.Goals as goal

pub returns : goal.returns
returns c = seeds_decide c.order_decides.ensures
