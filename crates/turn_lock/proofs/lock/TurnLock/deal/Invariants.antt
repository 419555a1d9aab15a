use Rattle.std.proofs.Common.{◌≡◌, ◌+◌, [], vec_len, vec_capacity}
use Rattle.turn_lock.specs.Passes.{AreFirst}
use Rattle.turn_lock.specs.Turns.{front, dealing}
use Rattle.turn_lock.proofs.lock.TurnLock.deal.Given as goal

abbrev pub invariant-loop-number : goal.invariant-loop-number
invariant-loop-number g l =
    (l.last.table_id ≡ l.self.id)
    × (l.last.me ≡ (dealing (front l.number (g.S.Story.fixed l.about.state.value) []), []))
    × (vec_len l.passes + 1 ≡ l.number)
    × (vec_capacity l.passes ≡ l.self.seats)
    × AreFirst l.self.id (g.S.Story.fixed l.about.state.value) (vec_len l.passes) l.passes.items
