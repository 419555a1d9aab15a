-- What is noted of actors that wait in vain, and what a step leaves of it.
use Rattle.std.specs.Prelude.{ℕ, ◌≡◌, Bool, true, false, List, map, Option, Some, None}
use Rattle.std.specs.Prelude.{if◌then◌else◌, slice_get, slice_set}
use Rattle.std.specs.List.{list_any}
use Rattle.linx_base.specs.Peers.{same_inc}
use Rattle.linx_base.specs.declared.identity.Inc.{Inc}
use Rattle.journal.specs.declared.by.By.{By}
use Rattle.journal.specs.declared.by.By.TheVariants.{Actor, Pump}
use Rattle.journal.specs.declared.effect.Effect.{Effect}
use Rattle.journal.specs.declared.effect.Step.{Step}
use Rattle.journal.specs.History.{endpoint_of}
use Rattle.journal.specs.Queues.{reached_by}
use Rattle.journal.specs.Rest.{is_idle}

-- an endpoint is the one that an effect reaches, if it reaches one
abbrev pub is_reached : Inc → Option Inc → Bool
is_reached j None = false
is_reached j (Some i) = same_inc i j

-- the effect reaches this endpoint
abbrev pub reaches : Inc → Effect → Bool
reaches j e = is_reached j (reached_by e)

-- where an actor waits in vain, unless that endpoint is reached
abbrev pub unless_at : Inc → Option Inc → Option Inc
unless_at i None = None
unless_at i (Some j) = if same_inc i j then None else Some j

-- where an actor waits in vain, until effects reach that endpoint
abbrev pub unless_reached : List Effect → Option Inc → Option Inc
unless_reached effects None = None
unless_reached effects (Some j) = if list_any (reaches j) effects then None else Some j

-- nothing is noted of the maker of a step, where it is an actor
abbrev pub without_maker : By → List (Option Inc) → List (Option Inc)
without_maker (Actor k) noted = slice_set noted k None
without_maker (Pump link) noted = noted

-- what a step leaves of what is noted, by the numbers of the actors
abbrev pub noted_past : Step → List (Option Inc) → List (Option Inc)
noted_past s noted = map (unless_reached s.effects) (without_maker s.by noted)

-- an actor waits in vain at this endpoint
pub record IsIdleAt (P : List Step) (k : ℕ) (j : Inc) : Type 0 where
  pub at : endpoint_of P k ≡ Some j
  pub idle : is_idle P k ≡ true

-- each actor that is noted with an endpoint waits in vain there
abbrev pub AreIdle : List Step → List (Option Inc) → Type 0
AreIdle P noted = (k : ℕ) (j : Inc) → slice_get noted k ≡ Some (Some j) → IsIdleAt P k j
