use Rattle.rlnh_messages.proofs.Types.{unique}
use Rattle.rlnh_messages.proofs.laws.one_message.Goals as goal

pub returns : goal.returns
returns c = unique
