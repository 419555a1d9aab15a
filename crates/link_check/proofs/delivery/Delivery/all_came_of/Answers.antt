use Rattle.std.proofs.Common.{◌∙◌, ap, not, sym}
use Rattle.link_check.specs.Deliveries.{is_due, is_to_come}
use Rattle.link_check.proofs.Walks.{any-found, any-more, any-none, falls}
use Rattle.link_check.proofs.delivery.Delivery.all_came_of.Goals as goal

pub loop-flow-smaller : goal.loop-flow-smaller
loop-flow-smaller c =
    falls c.loop-flow.left _ c.in-Some.flow.now c.in-Some.ensures.entry c.next_entry.ensures.rest

pub loop-flow-preserved : goal.loop-flow-preserved
loop-flow-preserved c =
    any-more (is_to_come c.args.self.now c.args.session) (is_due c.args.self.now c.args.session c.args.pair c.args.inc) c.loop-flow.left _ c.in-Some.flow.now c.in-Some.ensures.entry
    c.next_entry.ensures.rest (sym c.is_to_come-due.ensures ∙ c.if-due.false)
    c.loop-flow.invariant

pub returns-then-due : goal.returns-then-due
returns-then-due c =
    sym (ap not (any-found (is_to_come c.args.self.now c.args.session) (is_due c.args.self.now c.args.session c.args.pair c.args.inc) c.loop-flow.left c.in-Some.flow.now c.in-Some.ensures.entry
    (sym c.is_to_come-due.ensures ∙ c.if-due.true) c.loop-flow.invariant))

pub returns : goal.returns
returns c =
    sym (ap not (any-none (is_to_come c.args.self.now c.args.session) (is_due c.args.self.now c.args.session c.args.pair c.args.inc) c.loop-flow.left c.in_default.ensures.entry
    c.loop-flow.invariant))
