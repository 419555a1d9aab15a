use Rattle.std.proofs.Common.{◌∙◌}
use Rattle.sigsel.specs.Selection.{is_notice_of}
use Rattle.endpoint_queue.specs.Keys.{is_notice}
use Rattle.endpoint_queue.proofs.Kept.{item_found, item_missing, items_left, number_waits}
use Rattle.endpoint_queue.proofs.Kept.{others_agree, same_first, same_without, taken, unchanged}
use Rattle.endpoint_queue.proofs.indexed.Indexed.remove_ref.Goals as goal

-- NO NOTICE
pub invariant_of-self : goal.invariant_of-self
invariant_of-self c =
    unchanged c.self.inside.waiting c.self.inside.fronts c.self.inside.next c.self.invariant _
    c.take_first.new.self c.in_err-taken.ensures.others c.in_err-taken.ensures.first

pub returns-in_err-taken-clause-item : goal.returns-in_err-taken-clause-item
returns-in_err-taken-clause-item c =
    let waiting = c.self.inside.waiting in
    c.from_residual.ensures
    ∙ item_missing (is_notice_of c.args.attach) c.args.self.now waiting c.self.view_is _
    (same_first _ (is_notice c.args.attach) waiting c.notice_key.ensures)
    (same_without _ (is_notice c.args.attach) waiting c.notice_key.ensures)
    c.in_err-taken.ensures.first

pub returns-in_err-taken-clause-others : goal.returns-in_err-taken-clause-others
returns-in_err-taken-clause-others c =
    let waiting = c.self.inside.waiting in
    items_left (is_notice_of c.args.attach) c.args.self.now waiting c.self.view_is _
    (same_first _ (is_notice c.args.attach) waiting c.notice_key.ensures)
    (same_without _ (is_notice c.args.attach) waiting c.notice_key.ensures)
    c.take_first.new.self c.in_err-taken.ensures.others

-- A NOTICE TAKEN OUT
pub renew-requires-clause-others : goal.renew-requires-clause-others
renew-requires-clause-others c =
    rw c.number.ensures (others_agree c.self.inside.waiting c.self.inside.fronts
    c.self.inside.next c.self.invariant _ c.in_ok-taken.taken c.in_ok-taken.ensures.first
    c.take_first.new.self c.in_ok-taken.ensures.others)

pub renew-requires-clause-waits : goal.renew-requires-clause-waits
renew-requires-clause-waits c =
    rw c.number.ensures (number_waits c.self.inside.waiting c.self.inside.fronts
    c.self.inside.next c.self.invariant _ c.in_ok-taken.taken c.in_ok-taken.ensures.first
    c.take_first.new.self c.in_ok-taken.ensures.others)

pub invariant_of-self-2 : goal.invariant_of-self-2
invariant_of-self-2 c =
    taken c.self.inside.waiting c.self.inside.fronts c.self.inside.next c.self.invariant _
    c.in_ok-taken.taken c.in_ok-taken.ensures.first c.take_first.new.self
    c.in_ok-taken.ensures.others c.renew.new.fronts c.renew.ensures

pub returns-clause-item : goal.returns-clause-item
returns-clause-item c =
    let waiting = c.self.inside.waiting in
    item_found (is_notice_of c.args.attach) c.args.self.now waiting c.self.view_is _
    (same_first _ (is_notice c.args.attach) waiting c.notice_key.ensures)
    (same_without _ (is_notice c.args.attach) waiting c.notice_key.ensures)
    c.in_ok-taken.taken c.in_ok-taken.ensures.first

pub returns-clause-others : goal.returns-clause-others
returns-clause-others c =
    let waiting = c.self.inside.waiting in
    items_left (is_notice_of c.args.attach) c.args.self.now waiting c.self.view_is _
    (same_first _ (is_notice c.args.attach) waiting c.notice_key.ensures)
    (same_without _ (is_notice c.args.attach) waiting c.notice_key.ensures)
    c.take_first.new.self c.in_ok-taken.ensures.others
