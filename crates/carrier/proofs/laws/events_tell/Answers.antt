use Rattle.carrier.proofs.Delivering.{events_tell}
use Rattle.carrier.proofs.laws.events_tell.Goals as goal

pub returns : goal.returns
returns c = events_tell
