use Rattle.turn_lock.specs.Passes.{IsPassOf, IsSamePass}
use Rattle.workers.specs.Working.{IsWorking, StillRuns}
use Rattle.workers.proofs.worker.work.Given as goal

abbrev pub invariant-turns : goal.invariant-turns
invariant-turns g l =
    IsPassOf l.lock l.pass × IsSamePass l.initial.pass l.pass × IsWorking l.script l.pass l.player
    × StillRuns l.pass l.player
