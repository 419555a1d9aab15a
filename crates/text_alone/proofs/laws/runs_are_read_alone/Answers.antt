use Rattle.text_alone.proofs.AloneLaws.{runs_are_read_alone}
use Rattle.text_alone.proofs.laws.runs_are_read_alone.Goals as goal

pub returns : goal.returns
returns c = runs_are_read_alone c.printed_is_read.ensures c.texts_are_read.ensures
