use Rattle.deadlines.proofs.Leading.{stale}
use Rattle.deadlines.proofs.deadlines.Deadlines.remove.Goals as goal

pub play_up-requires-clause-stale : goal.play_up-requires-clause-stale
play_up-requires-clause-stale c =
    stale c.self.inside.slots.slots c.try_remove.new.self.slots c.self.inside.tree.items
    c.self.invariant c.args.slot c.try_remove.ensures.updates.others
