use Rattle.std.proofs.Common.{◌≡◌, map, take}
use Rattle.fabric.specs.Idle.{unless_reached}
use Rattle.fabric.proofs.watched_journal.forget_reached.Given as goal

-- the effects so far are gone through
abbrev pub invariant-loop-effect : goal.invariant-loop-effect
invariant-loop-effect l =
    l.idle ≡ map (unless_reached (take l.effect-index l.effects)) l.initial.idle
