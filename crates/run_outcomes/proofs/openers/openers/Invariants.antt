use Rattle.std.proofs.Common.{◌≡◌}
use Rattle.journal.specs.Histories.{first_steps}
use Rattle.run_outcomes.specs.Openers.{openers}
use Rattle.run_outcomes.proofs.openers.openers.Given as goal

-- those that the first steps opened
abbrev pub invariant-loop-done : goal.invariant-loop-done
invariant-loop-done l = l.table.items ≡ openers (first_steps l.done l.journal.log.steps)
