use Rattle.printed_laws.proofs.Passing.{passing_run}
use Rattle.printed_laws.proofs.laws.passing_are_runs.Goals as goal

pub returns : goal.returns
returns c = passing_run c.texts_are_read.ensures c.accepted_are_noticed.ensures
