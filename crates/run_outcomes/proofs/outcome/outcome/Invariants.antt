use Rattle.std.proofs.Common.{◌≡◌}
use Rattle.run_outcomes.specs.Outcomes.{told_all}
use Rattle.run_outcomes.proofs.outcome.outcome.Given as goal

-- what the actors so far were told
abbrev pub invariant-loop-before : goal.invariant-loop-before
invariant-loop-before l = l.text.items ≡ told_all l.table.items l.journal.log.steps l.before
