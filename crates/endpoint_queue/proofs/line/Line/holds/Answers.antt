use Rattle.std.proofs.Common.{◌∙◌, ap, not, sym, is_some}
use Rattle.endpoint_queue.proofs.Lines.{any_of_line, none_of_line}
use Rattle.endpoint_queue.proofs.line.Line.holds.Goals as goal

pub returns-then-selects : goal.returns-then-selects
returns-then-selects c =
    ap not c.is_empty.ensures
    ∙ (rw (← c.self.view_is) (any_of_line c.args.sel.now c.self.inside.number
    c.self.inside.items.items c.self.invariant (sym c.selects.ensures.computes
    ∙ c.if-selects.true)))

pub returns-else-selects : goal.returns-else-selects
returns-else-selects c =
    c.if-selects.false
    ∙ (rw (← c.self.view_is) (sym (ap is_some (none_of_line c.args.sel.now c.self.inside.number
    c.self.inside.items.items c.self.invariant (sym c.selects.ensures.computes
    ∙ c.if-selects.false)).0)))
