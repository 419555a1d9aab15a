use Rattle.std.proofs.Common.{◌≡◌, ◌++◌, drop, map, take}
use Rattle.fabric.specs.Idle.{unless_at}
use Rattle.fabric.proofs.watched_journal.forget_at.Given as goal

-- the actors so far are gone through
abbrev pub invariant-loop-noted : goal.invariant-loop-noted
invariant-loop-noted l =
    l.idle ≡ map (unless_at l.reached) (take l.noted-index l.initial.idle)
    ++ drop l.noted-index l.initial.idle
