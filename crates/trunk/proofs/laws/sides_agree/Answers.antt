use Rattle.trunk.proofs.EachEvent.Trunks.{agree}
use Rattle.trunk.proofs.laws.sides_agree.Goals as goal

pub returns : goal.returns
returns c = agree
