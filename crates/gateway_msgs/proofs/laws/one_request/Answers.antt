use Rattle.gateway_msgs.proofs.Fronting.{one_client, one_spelled}
use Rattle.gateway_msgs.proofs.laws.one_request.Goals as goal

pub returns : goal.returns
returns c = record { client = one_client; request = one_spelled }
