-- Who opened what, while a journal is read in order.
use Rattle.std.specs.Prelude.{◌≡◌, ℕ, nat_eq, List}
use Rattle.std.specs.HashMap.{get}
use Rattle.journal.specs.declared.effect.Step.{Step}
use Rattle.chart.specs.declared.openers.Openers.{Openers}
use Rattle.chart.specs.Columns.{opener}

-- the openers are those after these steps
abbrev pub Opens : List Step → Openers → Type 0
Opens P openers = (n : ℕ) → get nat_eq openers.by n ≡ opener P (record { 0 = n })
