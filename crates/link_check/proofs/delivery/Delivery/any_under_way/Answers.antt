use Rattle.std.proofs.Common.{◌∙◌, sym}
use Rattle.link_check.specs.Stillness.{any_under_way, is_under_way}
use Rattle.link_check.proofs.Walks.{any-found, any-more, any-none, falls}
use Rattle.link_check.proofs.delivery.Delivery.any_under_way.Goals as goal

pub loop-flow-smaller : goal.loop-flow-smaller
loop-flow-smaller c =
    falls c.loop-flow.left _ c.in-Some.flow.now c.in-Some.ensures.entry c.next_entry.ensures.rest

pub loop-flow-preserved : goal.loop-flow-preserved
loop-flow-preserved c =
    any-more (is_under_way c.args.self.now c.args.across.now c.args.session) (any_under_way c.args.self.now c.args.across.now c.args.session c.args.other) c.loop-flow.left _ c.in-Some.flow.now c.in-Some.ensures.entry
    c.next_entry.ensures.rest (sym c.is_under_way-under_way.ensures ∙ c.if-under_way.false)
    c.loop-flow.invariant

pub returns-then-under_way : goal.returns-then-under_way
returns-then-under_way c =
    sym (any-found (is_under_way c.args.self.now c.args.across.now c.args.session) (any_under_way c.args.self.now c.args.across.now c.args.session c.args.other) c.loop-flow.left c.in-Some.flow.now c.in-Some.ensures.entry
    (sym c.is_under_way-under_way.ensures ∙ c.if-under_way.true) c.loop-flow.invariant)

pub returns : goal.returns
returns c =
    sym (any-none (is_under_way c.args.self.now c.args.across.now c.args.session) (any_under_way c.args.self.now c.args.across.now c.args.session c.args.other) c.loop-flow.left c.in_default.ensures.entry c.loop-flow.invariant)
