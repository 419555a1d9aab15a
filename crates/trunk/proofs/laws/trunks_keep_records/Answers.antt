use Rattle.trunk.proofs.EachEvent.Trunks.{trunk_record}
use Rattle.trunk.proofs.laws.trunks_keep_records.Goals as goal

pub returns : goal.returns
returns c = trunk_record
