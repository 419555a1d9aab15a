use Rattle.std.proofs.Common.{◌≡◌, ◌≤◌}
use Rattle.journal.specs.Histories.{first_steps}
use Rattle.chart_map.specs.Grid.{behind_first}
use Rattle.chart_map.specs.Tallies.{tally_of}
use Rattle.chart_map.proofs.tally.tally_of.Given as goal

-- the steps so far are counted, and no more than there are
abbrev pub invariant-loop-done : goal.invariant-loop-done
invariant-loop-done l =
    (l.tally ≡ tally_of l.strip (behind_first l.from (first_steps l.done l.journal.log.steps)))
    × (l.tally.steps ≤ l.done)
