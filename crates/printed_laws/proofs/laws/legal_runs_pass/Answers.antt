use Rattle.printed_laws.proofs.Passing.{legal_passes}
use Rattle.printed_laws.proofs.laws.legal_runs_pass.Goals as goal

pub returns : goal.returns
returns c = legal_passes c.printed_is_read.ensures c.printed_stays_legal.ensures
