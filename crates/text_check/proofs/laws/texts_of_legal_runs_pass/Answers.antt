use Rattle.text_check.proofs.Passing.{legal_run_passes}
use Rattle.text_check.proofs.laws.texts_of_legal_runs_pass.Goals as goal

pub returns : goal.returns
returns c = legal_run_passes c.printed_is_read.ensures c.printed_stays_legal.ensures
    c.logs_are_found.ensures
