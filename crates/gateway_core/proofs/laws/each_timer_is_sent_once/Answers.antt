use Rattle.gateway_core.proofs.Timing.{each_timer_once}
use Rattle.gateway_core.proofs.laws.each_timer_is_sent_once.Goals as goal

pub returns : goal.returns
returns c = each_timer_once
