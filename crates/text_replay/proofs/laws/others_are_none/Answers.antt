use Rattle.text_replay.proofs.Decided.{others_are_none}
use Rattle.text_replay.proofs.laws.others_are_none.Goals as goal

pub returns : goal.returns
returns c = others_are_none c.printed_is_read.ensures c.order_decides.ensures
