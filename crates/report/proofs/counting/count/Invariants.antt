use Rattle.std.proofs.Common.{◌≡◌, ◌*◌, ◌≤◌}
use Rattle.journal.specs.Histories.{first_steps}
use Rattle.report.specs.Summary.{count_over}
use Rattle.report.proofs.counting.count.Given as goal

-- the count over the first steps, each of which adds what a u64 counts
abbrev pub invariant-loop-done : goal.invariant-loop-done
invariant-loop-done l = record {
  is : l.total ≡ count_over l.counted (first_steps l.done l.journal.log.steps);
  few : l.total ≤ l.done * 18446744073709551615;
}
