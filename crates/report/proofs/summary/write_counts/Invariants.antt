use Rattle.std.proofs.Common.{◌≡◌, ◌++◌, take, flat_map}
use Rattle.report.specs.Summary.{count_line}
use Rattle.report.proofs.summary.write_counts.Given as goal

-- the lines so far
abbrev pub invariant-loop-counted : goal.invariant-loop-counted
invariant-loop-counted l = l.out.items
    ≡ l.initial.out.items ++ flat_map (count_line l.journal.log.steps) (take l.counted-index l.all)
