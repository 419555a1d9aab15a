use Rattle.trunk.proofs.EachEvent.Trunks.{offers}
use Rattle.trunk.proofs.laws.sides_offer.Goals as goal

pub returns : goal.returns
returns c = offers
