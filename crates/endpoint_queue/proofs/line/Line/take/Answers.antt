use Rattle.std.proofs.Common.{◌∙◌, sym}
use Rattle.endpoint_queue.proofs.Lines.{none_of_line}
use Rattle.endpoint_queue.proofs.line.Line.take.Goals as goal

pub returns-else-selects-clause-item : goal.returns-else-selects-clause-item
returns-else-selects-clause-item c =
    rw (← c.self.view_is) (sym (none_of_line c.args.sel.now c.self.inside.number
    c.self.inside.items.items c.self.invariant (sym c.selects.ensures.computes
    ∙ c.if-selects.false)).0)

pub returns-else-selects-clause-others : goal.returns-else-selects-clause-others
returns-else-selects-clause-others c =
    rw (← c.self.view_is) (sym (none_of_line c.args.sel.now c.self.inside.number
    c.self.inside.items.items c.self.invariant (sym c.selects.ensures.computes
    ∙ c.if-selects.false)).1)
