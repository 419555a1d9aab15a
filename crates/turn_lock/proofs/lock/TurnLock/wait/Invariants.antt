use Rattle.std.proofs.Common.{◌≡◌}
use Rattle.turn_lock.proofs.lock.TurnLock.wait.Given as goal

abbrev pub invariant-loop : goal.invariant-loop
invariant-loop g l = l.place ≡ l.initial.place
