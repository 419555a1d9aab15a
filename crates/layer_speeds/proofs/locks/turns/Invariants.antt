use Rattle.turn_lock.specs.Passes.{IsPassOf}
use Rattle.layer_speeds.proofs.locks.turns.Given as goal

abbrev pub invariant-loop : goal.invariant-loop
invariant-loop g l = IsPassOf l.lock l.pass
