use Rattle.std.proofs.Common.{◌∙◌, sym}
use Rattle.link_check.specs.Stillness.{any_findable, is_findable}
use Rattle.link_check.proofs.Walks.{any-found, any-more, any-none, falls}
use Rattle.link_check.proofs.delivery.Delivery.any_findable.Goals as goal

pub loop-hunt-smaller : goal.loop-hunt-smaller
loop-hunt-smaller c =
    falls c.loop-hunt.left _ c.in-Some.hunt.now c.in-Some.ensures.entry c.next_entry.ensures.rest

pub loop-hunt-preserved : goal.loop-hunt-preserved
loop-hunt-preserved c =
    any-more (is_findable c.args.self.now c.args.across.now) (any_findable c.args.self.now c.args.across.now) c.loop-hunt.left _ c.in-Some.hunt.now c.in-Some.ensures.entry
    c.next_entry.ensures.rest (sym c.is_findable-findable.ensures ∙ c.if-findable.false)
    c.loop-hunt.invariant

pub returns-then-findable : goal.returns-then-findable
returns-then-findable c =
    sym (any-found (is_findable c.args.self.now c.args.across.now) (any_findable c.args.self.now c.args.across.now) c.loop-hunt.left c.in-Some.hunt.now c.in-Some.ensures.entry
    (sym c.is_findable-findable.ensures ∙ c.if-findable.true) c.loop-hunt.invariant)

pub returns : goal.returns
returns c =
    sym (any-none (is_findable c.args.self.now c.args.across.now) (any_findable c.args.self.now c.args.across.now) c.loop-hunt.left c.in_default.ensures.entry c.loop-hunt.invariant)
