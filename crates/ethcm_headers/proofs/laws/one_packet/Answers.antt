use Rattle.ethcm_headers.proofs.Found.{unique}
use Rattle.ethcm_headers.proofs.laws.one_packet.Goals as goal

pub returns : goal.returns
returns c = unique
