use Rattle.ethcm_end.proofs.Following.{offer_rows}
use Rattle.ethcm_end.proofs.laws.offer_follows_rules.Goals as goal

pub returns : goal.returns
returns c = offer_rows
