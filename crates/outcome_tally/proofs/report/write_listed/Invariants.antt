use Rattle.std.proofs.Common.{◌≡◌, ◌+◌, ◌++◌, drop}
use Rattle.outcome_tally.specs.Report.{listed_text}
use Rattle.outcome_tally.proofs.report.write_listed.Given as goal

-- the lines of those so far, and of the rest
abbrev pub invariant-loop-place : goal.invariant-loop-place
invariant-loop-place l =
    l.out.items ++ listed_text l.actors (l.place + 1) l.first (drop l.place l.listed)
    ≡ l.initial.out.items ++ listed_text l.actors 1 l.first l.listed
