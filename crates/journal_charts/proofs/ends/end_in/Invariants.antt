use Rattle.std.proofs.Common.{◌≡◌}
use Rattle.journal.specs.Histories.{first_steps}
use Rattle.journal_charts.specs.Ends.{end_in}
use Rattle.journal_charts.proofs.ends.end_in.Given as goal

-- what the first steps tell is known
abbrev pub invariant-loop-done : goal.invariant-loop-done
invariant-loop-done l = l.end ≡ end_in (first_steps l.done l.journal.log.steps) l.link l.side
