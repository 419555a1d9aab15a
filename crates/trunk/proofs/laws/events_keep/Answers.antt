use Rattle.trunk.proofs.EachEvent.BothSides.{events_keep}
use Rattle.trunk.proofs.laws.events_keep.Goals as goal

pub returns : goal.returns
returns c = events_keep
