use Rattle.ethcm_end.proofs.Following.{tick_rows}
use Rattle.ethcm_end.proofs.laws.tick_follows_rules.Goals as goal

pub returns : goal.returns
returns c = tick_rows
