-- What is kept while lines are read.
use Rattle.std.specs.Prelude.{List, ◌∷◌, Option, Some, None}
use Rattle.journal.specs.declared.effect.Step.{Step}

-- whole steps, and the newest, if there is one
abbrev pub with_newest : Option Step → List Step → List Step
with_newest None P = P
with_newest (Some s) P = s ∷ P
