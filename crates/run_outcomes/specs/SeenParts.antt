-- What is seen of a run.
use Rattle.std.specs.Prelude.{ℕ, List}
use Rattle.run_outcomes.specs.declared.rare.Rares.{Rares}

-- the number of steps, the outcome, and which rare things there are
pub record SeenParts : Type 0 where
  pub steps : ℕ
  pub outcome : List ℕ
  pub rares : Rares
