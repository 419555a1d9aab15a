-- What came of some runs.
use Rattle.std.specs.Prelude.{ℕ, List, Option}
use Rattle.outcome_tally.specs.OutcomeParts.{OutcomeParts}
use Rattle.outcome_tally.specs.declared.rare_times.RareTimes.{RareTimes}
use Rattle.outcome_tally.specs.declared.span.Span.{Span}
use Rattle.outcome_tally.specs.declared.times.Times.{Times}

-- how many there are; of how many the journal was full before the end; and of the whole ones:
-- between which numbers of steps they lie, their outcomes, and their rare things
pub record TallyParts : Type 0 where
  pub runs : ℕ
  pub full : Times
  pub steps : Option Span
  pub came : List OutcomeParts
  pub rares : RareTimes
