use Rattle.turn_lock.specs.Passes.{IsPassOf}
use Rattle.thread_cases.proofs.turns.linger.Given as goal

abbrev pub invariant-loop : goal.invariant-loop
invariant-loop g l = IsPassOf l.lock l.pass
