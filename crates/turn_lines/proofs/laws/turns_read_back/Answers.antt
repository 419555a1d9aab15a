use Rattle.turn_lines.proofs.Fronts.{turns_read_back}
use Rattle.turn_lines.proofs.laws.turns_read_back.Goals as goal

pub returns : goal.returns
returns c = turns_read_back
