use Rattle.std.proofs.Common.{◌≡◌}
use Rattle.journal.specs.Histories.{first_steps}
use Rattle.journal_charts.specs.Actors.{makers_of}
use Rattle.journal_charts.proofs.actors.makers_of.Given as goal

-- the makers of the first steps are known
abbrev pub invariant-loop-done : goal.invariant-loop-done
invariant-loop-done l = l.actors.items ≡ makers_of (first_steps l.done l.journal.log.steps)
