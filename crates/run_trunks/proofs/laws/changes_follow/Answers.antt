use Rattle.run_trunks.proofs.Rested.{changes-again, reads-changed}
use Rattle.run_trunks.proofs.laws.changes_follow.Goals as goal

pub returns : goal.returns
returns c = record { read = reads-changed; again = changes-again }
