use Rattle.trunk.proofs.EachEvent.Quiet.{quiet}
use Rattle.trunk.proofs.laws.quiet_is_complete.Goals as goal

pub returns : goal.returns
returns c = quiet
