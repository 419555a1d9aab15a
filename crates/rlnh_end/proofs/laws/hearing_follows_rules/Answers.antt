use Rattle.rlnh_end.proofs.ByRule.{hearing_follows_rules}
use Rattle.rlnh_end.proofs.laws.hearing_follows_rules.Goals as goal

pub returns : goal.returns
returns c = hearing_follows_rules
