use Rattle.log_laws.proofs.FoundLogs.{printed_again}
use Rattle.log_laws.proofs.laws.text_is_printed_again.Goals as goal

pub returns : goal.returns
returns c names text P = printed_again names text P
