use Rattle.std.proofs.Common.{◌≡◌}
use Rattle.journal.specs.Histories.{first_steps}
use Rattle.chart.specs.Ties.{ties_of}
use Rattle.chart.proofs.ties.put_steps.Given as goal

-- the first steps have their ties
abbrev pub invariant-loop-done : goal.invariant-loop-done
invariant-loop-done l = l.ties.items ≡ ties_of (first_steps l.done l.journal.log.steps)
