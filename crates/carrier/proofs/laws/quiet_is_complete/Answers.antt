use Rattle.carrier.proofs.Delivering.{quiet_complete}
use Rattle.carrier.proofs.laws.quiet_is_complete.Goals as goal

pub returns : goal.returns
returns c = quiet_complete
