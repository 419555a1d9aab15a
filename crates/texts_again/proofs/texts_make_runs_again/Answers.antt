use Rattle.texts_again.proofs.Texts.{texts_make_runs_again}
use Rattle.texts_again.proofs.texts_make_runs_again.Goals as goal

pub returns : goal.returns
returns c = texts_make_runs_again c.runs_come_again.ensures c.texts_tell_turns.ensures
