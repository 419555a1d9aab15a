-- Who owns a step, while a journal is read in order.
use Rattle.std.specs.Prelude.{◌≡◌, ℕ, nat_eq, List}
use Rattle.std.specs.HashMap.{get}
use Rattle.std.specs.HashSet.{contains}
use Rattle.journal.specs.declared.effect.Step.{Step}
use Rattle.journal.specs.History.{last_endpoint, is_closed}
use Rattle.journal_text.specs.declared.owners.Owners.{Owners}

-- the owners are those after these steps: of each actor the incarnation that it opened last, and
-- all incarnations that were closed
pub record Tracks (P : List Step) (owners : Owners) : Type 0 where
  pub last : (k : ℕ) → get nat_eq owners.last k ≡ last_endpoint P k
  pub closed : (n : ℕ) → contains nat_eq owners.closed n ≡ is_closed P (record { 0 = n })
