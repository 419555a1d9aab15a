use Rattle.carrier.proofs.Promising.{promises}
use Rattle.carrier.proofs.laws.links_keep_promises.Goals as goal

pub returns : goal.returns
returns c = promises
