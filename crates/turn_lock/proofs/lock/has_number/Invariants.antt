use Rattle.std.proofs.Common.{◌≢◌, ℕ, ◌<◌, get_or}
use Rattle.turn_lock.specs.Passes.{numbers}
use Rattle.turn_lock.proofs.lock.has_number.Given as goal

abbrev pub invariant-loop-pass : goal.invariant-loop-pass
invariant-loop-pass g l =
    (k : ℕ) → k < l.pass-index → get_or (numbers l.passes) k l.number ≢ l.number
