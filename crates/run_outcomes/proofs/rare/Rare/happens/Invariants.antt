use Rattle.std.proofs.Common.{◌≡◌}
use Rattle.journal.specs.Histories.{first_steps}
use Rattle.run_outcomes.specs.Rare.{happens}
use Rattle.run_outcomes.proofs.rare.Rare.happens.Given as goal

-- whether the first steps have it
abbrev pub invariant-loop-done : goal.invariant-loop-done
invariant-loop-done l = l.found ≡ happens l.self (first_steps l.done l.journal.log.steps)
