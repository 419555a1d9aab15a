use Rattle.runs_again.proofs.Spelled.{turns_are_spelled}
use Rattle.runs_again.proofs.laws.turns_are_spelled.Goals as goal

pub returns : goal.returns
returns c = turns_are_spelled
