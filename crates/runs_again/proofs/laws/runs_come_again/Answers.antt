use Rattle.runs_again.proofs.Again.{runs_come_again}
use Rattle.runs_again.proofs.laws.runs_come_again.Goals as goal

pub returns : goal.returns
returns c = runs_come_again c.order_decides.ensures
