use Rattle.rlnh_end.proofs.ByRule.{calls_follow_rules}
use Rattle.rlnh_end.proofs.laws.calls_follow_rules.Goals as goal

pub returns : goal.returns
returns c = calls_follow_rules
