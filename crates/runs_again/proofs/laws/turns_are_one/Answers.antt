use Rattle.runs_again.proofs.Numbers.{turns_are_one}
use Rattle.runs_again.proofs.laws.turns_are_one.Goals as goal

pub returns : goal.returns
returns c = turns_are_one
