use Rattle.endpoint_queue.proofs.Kept.{last_agree, last_item, last_items, last_taken, last_waits}
use Rattle.endpoint_queue.proofs.indexed.Indexed.take_last.Goals as goal

pub renew-requires-clause-others : goal.renew-requires-clause-others
renew-requires-clause-others c =
    rw c.number.ensures (last_agree c.self.inside.waiting c.self.inside.fronts c.self.inside.next
    c.self.invariant c.in_ok-taken.taken c.in_ok-taken.ensures.last c.take_last.new.self
    c.in_ok-taken.ensures.others)

pub renew-requires-clause-waits : goal.renew-requires-clause-waits
renew-requires-clause-waits c =
    rw c.number.ensures (last_waits c.self.inside.waiting c.self.inside.fronts c.self.inside.next
    c.self.invariant c.in_ok-taken.taken c.in_ok-taken.ensures.last c.take_last.new.self
    c.in_ok-taken.ensures.others)

pub invariant_of-self-2 : goal.invariant_of-self-2
invariant_of-self-2 c =
    last_taken c.self.inside.waiting c.self.inside.fronts c.self.inside.next c.self.invariant
    c.in_ok-taken.taken c.in_ok-taken.ensures.last c.take_last.new.self
    c.in_ok-taken.ensures.others c.renew.new.fronts c.renew.ensures

pub returns-clause-item : goal.returns-clause-item
returns-clause-item c =
    last_item c.self.inside.waiting c.args.self.now c.self.view_is c.in_ok-taken.taken
    c.in_ok-taken.ensures.last

pub returns-clause-others : goal.returns-clause-others
returns-clause-others c =
    last_items c.self.inside.waiting c.args.self.now c.self.view_is c.take_last.new.self
    c.in_ok-taken.ensures.others
