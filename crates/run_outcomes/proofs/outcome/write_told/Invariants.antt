use Rattle.std.proofs.Common.{◌≡◌, ◌++◌}
use Rattle.journal.specs.Histories.{first_steps}
use Rattle.run_outcomes.specs.Outcomes.{told}
use Rattle.run_outcomes.proofs.outcome.write_told.Given as goal

-- what the first steps told
abbrev pub invariant-loop-done : goal.invariant-loop-done
invariant-loop-done l = l.out.items ≡ l.initial.out.items
    ++ told l.table l.journal.log.steps l.actor (first_steps l.done l.journal.log.steps)
