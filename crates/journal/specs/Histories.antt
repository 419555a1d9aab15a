-- The first steps of a journal, while it is read in order.
use Rattle.std.specs.Prelude.{ℕ, ◌-◌, List, length, drop}
use Rattle.journal.specs.declared.effect.Step.{Step}

-- the history of the first steps, so many, of a journal with these
abbrev pub first_steps : ℕ → List Step → List Step
first_steps count steps = drop (length steps - count) steps
