use Rattle.std.proofs.Common.{◌≡◌, vec_len, All}
use Rattle.turn_lock.specs.Passes.{IsPassOf}
use Rattle.turn_lock.proofs.Passes.{Gathers}
use Rattle.turn_lock.proofs.lock.TurnLock.gather.Given as goal

abbrev pub invariant-loop-pass : goal.invariant-loop-pass
invariant-loop-pass g l =
    (l.seat.table_id ≡ l.self.id) × All (IsPassOf l.self) l.passes.items
    × Gathers l.fn.passes.items l.passes.items l.seat.me

abbrev pub decreases-loop-pass : goal.decreases-loop-pass
decreases-loop-pass g l = vec_len l.passes
