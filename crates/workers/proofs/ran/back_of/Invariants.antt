use Rattle.std.proofs.Common.{◌≡◌, ◌++◌}
use Rattle.workers.specs.declared.worker.End.TheVariants.{Finished}
use Rattle.workers.specs.Running.{AreFinished, passes_in, players_in}
use Rattle.workers.proofs.ran.back_of.Given as goal

-- what is back so far, and what is left, is all
abbrev pub invariant-loop-worked : goal.invariant-loop-worked
invariant-loop-worked l =
    (l.passes.items ++ passes_in l.worked-iterator.rest.items ≡ passes_in l.fn.all.items)
    × (l.players.items ++ players_in l.worked-iterator.rest.items ≡ players_in l.fn.all.items)
    × (l.end ≡ Finished → AreFinished l.worked-iterator.rest.items → AreFinished l.fn.all.items)
