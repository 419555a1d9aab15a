use Rattle.gateway_session.proofs.Room.{no_signal}
use Rattle.gateway_session.proofs.laws.no_signal_where_full.Goals as goal

pub returns : goal.returns
returns c = no_signal
