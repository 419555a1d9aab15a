use Rattle.std.proofs.Common.{ℕ, ◌+◌, ◌<◌, Contains}
use Rattle.turn_lock.specs.Passes.{numbers}
use Rattle.turn_lock.proofs.lock.TurnLock.first_missing.Given as goal

abbrev pub invariant-loop-index : goal.invariant-loop-index
invariant-loop-index g l = (k : ℕ) → 0 < k → k < l.index + 1 → Contains (numbers l.passes) k
