use Rattle.std.proofs.Common.{◌∙◌, sym}
use Rattle.link_check.specs.Stillness.{any_left_over, is_left_over}
use Rattle.link_check.proofs.Walks.{any-found, any-more, any-none, falls}
use Rattle.link_check.proofs.delivery.Delivery.any_left_over.Goals as goal

pub loop-mark-smaller : goal.loop-mark-smaller
loop-mark-smaller c =
    falls c.loop-mark.left _ c.in-Some.mark.now c.in-Some.ensures.entry c.next_entry.ensures.rest

pub loop-mark-preserved : goal.loop-mark-preserved
loop-mark-preserved c =
    any-more (is_left_over c.args.self.now c.args.across.now) (any_left_over c.args.self.now c.args.across.now c.args.session) c.loop-mark.left _ c.in-Some.mark.now c.in-Some.ensures.entry
    c.next_entry.ensures.rest (sym c.is_left_over-left_over.ensures ∙ c.if-left_over.false)
    c.loop-mark.invariant

pub returns-then-left_over : goal.returns-then-left_over
returns-then-left_over c =
    sym (any-found (is_left_over c.args.self.now c.args.across.now) (any_left_over c.args.self.now c.args.across.now c.args.session) c.loop-mark.left c.in-Some.mark.now c.in-Some.ensures.entry
    (sym c.is_left_over-left_over.ensures ∙ c.if-left_over.true) c.loop-mark.invariant)

pub returns : goal.returns
returns c =
    sym (any-none (is_left_over c.args.self.now c.args.across.now) (any_left_over c.args.self.now c.args.across.now c.args.session) c.loop-mark.left c.in_default.ensures.entry c.loop-mark.invariant)
