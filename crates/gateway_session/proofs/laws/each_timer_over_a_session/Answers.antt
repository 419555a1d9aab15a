use Rattle.gateway_session.proofs.Timers.{over_a_session}
use Rattle.gateway_session.proofs.laws.each_timer_over_a_session.Goals as goal

pub returns : goal.returns
returns c = over_a_session
