use Rattle.trunk.proofs.EachEvent.Trunks.{promises}
use Rattle.trunk.proofs.laws.trunks_keep_promises.Goals as goal

pub returns : goal.returns
returns c = promises
