-- WHAT IS SEEN OF A WHOLE RUN.
use Rattle.std.specs.Prelude.{ℕ, List, length}
use Rattle.journal.specs.declared.effect.Step.{Step}
use Rattle.run_outcomes.specs.Outcomes.{outcome_of}
use Rattle.run_outcomes.specs.Rare.{rares_of}
use Rattle.run_outcomes.specs.SeenParts.{SeenParts}

-- WHAT IS SEEN OF A RUN with so many actors
abbrev pub seen_of : ℕ → List Step → SeenParts
seen_of actors steps = record {
  steps = length steps;
  outcome = outcome_of actors steps;
  rares = rares_of steps;
}
