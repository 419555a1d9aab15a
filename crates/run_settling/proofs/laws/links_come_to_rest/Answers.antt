use Rattle.run_settling.proofs.Resting.{links_come_to_rest}
use Rattle.run_settling.proofs.laws.links_come_to_rest.Goals as goal

pub returns : goal.returns
returns c = links_come_to_rest
