use Rattle.gateway_msgs.proofs.Fronting.{none_goes}
use Rattle.gateway_msgs.proofs.laws.none_goes_on.Goals as goal

pub returns : goal.returns
returns c = none_goes
