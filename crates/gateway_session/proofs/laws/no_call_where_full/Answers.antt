use Rattle.gateway_session.proofs.Room.{no_call}
use Rattle.gateway_session.proofs.laws.no_call_where_full.Goals as goal

pub returns : goal.returns
returns c = no_call
