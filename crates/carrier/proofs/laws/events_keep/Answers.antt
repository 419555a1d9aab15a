use Rattle.carrier.proofs.Links.{events_keep}
use Rattle.carrier.proofs.laws.events_keep.Goals as goal

pub returns : goal.returns
returns c = events_keep
