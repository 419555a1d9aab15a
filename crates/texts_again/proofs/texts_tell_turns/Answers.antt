use Rattle.texts_again.proofs.Texts.{texts_tell_turns}
use Rattle.texts_again.proofs.texts_tell_turns.Goals as goal

pub returns : goal.returns
returns c = texts_tell_turns c.printed_is_read.ensures
