use Rattle.trunk.proofs.EachEvent.Trunks.{events_tell}
use Rattle.trunk.proofs.laws.events_tell.Goals as goal

pub returns : goal.returns
returns c = events_tell
