use Rattle.trunk.proofs.EachEvent.Trunks.{understood}
use Rattle.trunk.proofs.laws.messages_are_understood.Goals as goal

pub returns : goal.returns
returns c = understood
