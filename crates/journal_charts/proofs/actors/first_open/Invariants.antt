use Rattle.std.proofs.Common.{◌≡◌}
use Rattle.std.specs.Option.{option_copied}
use Rattle.journal.specs.Histories.{first_steps}
use Rattle.journal_charts.specs.Actors.{first_open}
use Rattle.journal_charts.proofs.actors.first_open.Given as goal

-- the opening among the first steps is found
abbrev pub invariant-loop-done : goal.invariant-loop-done
invariant-loop-done l =
    option_copied l.first ≡ first_open (first_steps l.done l.journal.log.steps) l.actor
