use Rattle.std.proofs.Common.{◌∙◌}
use Rattle.sigsel.specs.Selection.{is_selected}
use Rattle.sigsel.specs.Selects.{selects}
use Rattle.endpoint_queue.proofs.Kept.{chosen_first, chosen_there, chosen_without}
use Rattle.endpoint_queue.proofs.Kept.{item_found, items_left, none_item, none_items}
use Rattle.endpoint_queue.proofs.Kept.{number_waits, others_agree, taken}
use Rattle.endpoint_queue.proofs.indexed.Indexed.take.Goals as goal

-- NONE SELECTED
pub returns-in_err-front-clause-item : goal.returns-in_err-front-clause-item
returns-in_err-front-clause-item c =
    c.from_residual.ensures
    ∙ none_item c.self.inside.waiting c.self.inside.fronts c.self.inside.next c.self.invariant
    c.args.sel.now c.in_err-front.ensures c.args.self.now c.self.view_is

pub returns-in_err-front-clause-others : goal.returns-in_err-front-clause-others
returns-in_err-front-clause-others c =
    none_items c.self.inside.waiting c.self.inside.fronts c.self.inside.next c.self.invariant
    c.args.sel.now c.in_err-front.ensures c.args.self.now c.self.view_is

-- an item has the number of the front
pub invariant_of-self : goal.invariant_of-self
invariant_of-self c =
    absurd (chosen_there c.self.inside.waiting c.self.inside.fronts c.self.inside.next
    c.self.invariant (selects c.args.sel.now) c.in_ok-front.front c.in_ok-front.ensures _
    c.number_key.ensures c.in_err-taken.ensures.first)

pub returns-in_err-taken-clause-others : goal.returns-in_err-taken-clause-others
returns-in_err-taken-clause-others c =
    absurd (chosen_there c.self.inside.waiting c.self.inside.fronts c.self.inside.next
    c.self.invariant (selects c.args.sel.now) c.in_ok-front.front c.in_ok-front.ensures _
    c.number_key.ensures c.in_err-taken.ensures.first)

-- THE FIRST ONE TAKEN OUT
pub renew-requires-clause-others : goal.renew-requires-clause-others
renew-requires-clause-others c =
    rw c.number.ensures (others_agree c.self.inside.waiting c.self.inside.fronts
    c.self.inside.next c.self.invariant _ c.in_ok-taken.taken c.in_ok-taken.ensures.first
    c.take_first.new.self c.in_ok-taken.ensures.others)

pub renew-requires-clause-waits : goal.renew-requires-clause-waits
renew-requires-clause-waits c =
    rw c.number.ensures (number_waits c.self.inside.waiting c.self.inside.fronts
    c.self.inside.next c.self.invariant _ c.in_ok-taken.taken c.in_ok-taken.ensures.first
    c.take_first.new.self c.in_ok-taken.ensures.others)

pub invariant_of-self-2 : goal.invariant_of-self-2
invariant_of-self-2 c =
    taken c.self.inside.waiting c.self.inside.fronts c.self.inside.next c.self.invariant _
    c.in_ok-taken.taken c.in_ok-taken.ensures.first c.take_first.new.self
    c.in_ok-taken.ensures.others c.renew.new.fronts c.renew.ensures

pub returns-clause-item : goal.returns-clause-item
returns-clause-item c =
    let inside = c.self.inside in
    let p = selects c.args.sel.now in
    let front = c.in_ok-front.front in
    let least = c.in_ok-front.ensures in
    item_found (is_selected c.args.sel.now) c.args.self.now inside.waiting c.self.view_is _
    (chosen_first inside.waiting inside.fronts inside.next c.self.invariant p front least _
    c.number_key.ensures)
    (chosen_without inside.waiting inside.fronts inside.next c.self.invariant p front least _
    c.number_key.ensures)
    c.in_ok-taken.taken c.in_ok-taken.ensures.first

pub returns-clause-others : goal.returns-clause-others
returns-clause-others c =
    let inside = c.self.inside in
    let p = selects c.args.sel.now in
    let front = c.in_ok-front.front in
    let least = c.in_ok-front.ensures in
    items_left (is_selected c.args.sel.now) c.args.self.now inside.waiting c.self.view_is _
    (chosen_first inside.waiting inside.fronts inside.next c.self.invariant p front least _
    c.number_key.ensures)
    (chosen_without inside.waiting inside.fronts inside.next c.self.invariant p front least _
    c.number_key.ensures)
    c.take_first.new.self c.in_ok-taken.ensures.others
