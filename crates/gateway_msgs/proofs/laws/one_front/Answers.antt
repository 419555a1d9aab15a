use Rattle.gateway_msgs.proofs.Fronting.{one_front}
use Rattle.gateway_msgs.proofs.laws.one_front.Goals as goal

pub returns : goal.returns
returns c = one_front
