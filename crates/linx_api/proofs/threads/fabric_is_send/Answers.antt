use Rattle.linx_api.proofs.Sending.{shared_send}
use Rattle.linx_api.proofs.threads.fabric_is_send.Goals as goal

pub returns : goal.returns
returns c = shared_send
