use Rattle.std.proofs.Common.{sym, ◌∙◌}
use Rattle.fabric.proofs.Trunks.Tells.{hunt-numbers}
use Rattle.fabric.proofs.telling.tell_hunt.Goals as goal

pub asked-requires-clause-numbers : goal.asked-requires-clause-numbers
asked-requires-clause-numbers c =
    hunt-numbers c.args.trunks.now c.args.kernel.now c.args.path.now c.in-Over.link
    c.in-Over.name c.args.node c.in-Some.side c.in-Over.is c.requires.may c.requires.node
    (sym c.in-Some.is ∙ c.side_on.ensures)
