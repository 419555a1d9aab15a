use Rattle.journal_read.proofs.PrintedLaws.{printed_is_read}
use Rattle.journal_read.proofs.laws.printed_is_read.Goals as goal

pub returns : goal.returns
returns c = printed_is_read
