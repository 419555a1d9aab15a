use Rattle.log_laws.proofs.RunLogs.{logs_found}
use Rattle.log_laws.proofs.laws.logs_are_found.Goals as goal

pub returns : goal.returns
returns c = logs_found
