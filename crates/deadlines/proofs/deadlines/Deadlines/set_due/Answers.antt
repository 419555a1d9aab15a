use Rattle.std.proofs.Common.{Some, slice_set}
use Rattle.deadlines.specs.declared.deadline.Deadline.{Deadline}
use Rattle.deadlines.proofs.Leading.{set_other, stale}
use Rattle.deadlines.proofs.deadlines.Deadlines.set_due.Goals as goal

pub play_up-requires-clause-stale : goal.play_up-requires-clause-stale
play_up-requires-clause-stale c =
    let moved : Deadline = record { due = c.args.due; ticket = c.in-Some.deadline.now.ticket } in
    stale c.self.inside.slots.slots (slice_set c.self.inside.slots.slots c.args.slot (Some moved))
    c.self.inside.tree.items c.self.invariant c.args.slot
    (set_other c.self.inside.slots.slots c.args.slot (Some moved))
