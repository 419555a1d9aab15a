use Rattle.seed_report.specs.Reports.{IsTallied}
use Rattle.seed_report.proofs.reports.tally.Given as goal

-- the runs so far are tallied
abbrev pub invariant-seeds : goal.invariant-seeds
invariant-seeds l = IsTallied l.bytes l.actors l.first l.seed l.tally
