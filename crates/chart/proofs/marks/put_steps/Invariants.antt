use Rattle.std.proofs.Common.{◌≡◌}
use Rattle.journal.specs.Histories.{first_steps}
use Rattle.chart.specs.Marks.{marks_of}
use Rattle.chart.specs.Opened.{Opens}
use Rattle.chart.proofs.marks.put_steps.Given as goal

-- the first steps have their marks, and their openings are known
abbrev pub invariant-loop-done : goal.invariant-loop-done
invariant-loop-done l = (l.marks.items ≡ marks_of (first_steps l.done l.journal.log.steps))
    × Opens (first_steps l.done l.journal.log.steps) l.openers
