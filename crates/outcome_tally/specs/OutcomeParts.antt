-- An outcome that came.
use Rattle.std.specs.Prelude.{ℕ, List}
use Rattle.outcome_tally.specs.declared.times.Times.{Times}

-- an outcome: its text, and how often it came
pub record OutcomeParts : Type 0 where
  pub text : List ℕ
  pub times : Times
