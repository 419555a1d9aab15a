use Rattle.std.proofs.Common.{◌≡◌}
use Rattle.journal.specs.Histories.{first_steps}
use Rattle.chart.specs.Carried.{over_links}
use Rattle.chart.specs.Opened.{Opens}
use Rattle.chart.proofs.ties.over_links.Given as goal

-- what the first steps did over links is known, and their openings are
abbrev pub invariant-loop-done : goal.invariant-loop-done
invariant-loop-done l = (l.carried ≡ over_links (first_steps l.done l.journal.log.steps))
    × Opens (first_steps l.done l.journal.log.steps) l.openers
