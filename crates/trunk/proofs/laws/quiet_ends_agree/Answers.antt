use Rattle.trunk.proofs.EachEvent.Quiet.{quiet_ends}
use Rattle.trunk.proofs.laws.quiet_ends_agree.Goals as goal

pub returns : goal.returns
returns c = quiet_ends
