use Rattle.ethcm_end.proofs.Following.{input_rows}
use Rattle.ethcm_end.proofs.laws.input_follows_rules.Goals as goal

pub returns : goal.returns
returns c = input_rows
