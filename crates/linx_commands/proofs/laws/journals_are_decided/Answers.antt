use Rattle.linx_commands.proofs.Decided.{journals_are_decided}
use Rattle.linx_commands.proofs.laws.journals_are_decided.Goals as goal

pub returns : goal.returns
returns c = journals_are_decided c.order_decides.ensures
