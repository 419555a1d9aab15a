use Rattle.std.proofs.Common.{◌∙◌, ap, is_some}
use Rattle.sigsel.specs.Selection.{first_selected, is_selected}
use Rattle.sigsel.specs.Selects.{selects}
use Rattle.endpoint_queue.proofs.Kept.{held, is_some_items}
use Rattle.endpoint_queue.proofs.indexed.Indexed.holds.Goals as goal

pub returns : goal.returns
returns c =
    let sel = c.args.sel.now in
    let waiting = c.self.inside.waiting in
    c.is_some.ensures
    ∙ held waiting c.self.inside.fronts c.self.inside.next c.self.invariant (selects sel)
    c.least.result c.least.ensures
    ∙ is_some_items (is_selected sel) waiting
    ∙ ap (λ l. is_some (first_selected sel l)) c.self.view_is
