use Rattle.journal_read.proofs.AgreeLaws.{readings_agree}
use Rattle.journal_read.proofs.laws.readings_agree.Goals as goal

pub returns : goal.returns
returns c = readings_agree
