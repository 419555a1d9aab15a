-- When an actor is at rest, so that what it waits for can come from no other actor.
use Rattle.std.specs.Prelude.{ℕ, ◌≡◌, ◌≢◌, ◌≤◌, ◌<◌, Bool, true, false, ◌&&◌, ◌||◌, List, [], ◌∷◌}
use Rattle.std.specs.Prelude.{length, is_none, nat_lt, Option, Some, None, if◌then◌else◌}
use Rattle.linx_base.specs.declared.identity.Inc.{Inc}
use Rattle.linx_base.specs.declared.item.Item.{Item}
use Rattle.sigsel.specs.Selection.{first_selected}
use Rattle.sigsel.specs.declared.sigsel.Sigsel.{Sigsel}
use Rattle.journal.specs.declared.effect.Step.{Step}
use Rattle.journal.specs.declared.head.Head.{Head}
use Rattle.journal.specs.declared.head.Head.TheVariants.{Waits}
use Rattle.journal.specs.History.{endpoint_of, has_ended, is_by}
use Rattle.journal.specs.Queues.{queued}
use Rattle.journal.specs.Shapes.{Shape}

-- the filter that a head says it waits with
abbrev pub waits_in : Head → Option Sigsel
waits_in (Waits filter) = Some filter
waits_in _ = None

-- the filter that an actor's last step says it waits with
abbrev pub waits_with : List Step → ℕ → Option Sigsel
waits_with [] k = None
waits_with (s ∷ P) k = if is_by s.by k then waits_in s.head else waits_with P k

-- the queue of an endpoint, or none
abbrev pub queue_of : List Step → Option Inc → List Item
queue_of P None = []
queue_of P (Some j) = queued P j

-- an actor waits with this filter at this endpoint, and nothing selected is in its queue
abbrev pub waits_in_vain : List Step → Option Sigsel → Option Inc → Bool
waits_in_vain P (Some filter) (Some j) = is_none (first_selected filter (queued P j))
waits_in_vain P (Some filter) None = false
waits_in_vain P None me = false

-- an actor is idle: its last step waits, and in vain
abbrev pub is_idle : List Step → ℕ → Bool
is_idle P k = waits_in_vain P (waits_with P k) (endpoint_of P k)

-- another actor leaves actor k at rest: it has ended, or it is idle and has a greater number
abbrev pub leaves_at_rest : List Step → ℕ → ℕ → Bool
leaves_at_rest P k other = has_ended P other || (is_idle P other && nat_lt k other)

-- An actor is at rest where every other one of the shape leaves it so. That each link is still,
-- too, is said by link_laws
pub record IsAtRest (shape : Shape) (P : List Step) (k : ℕ) : Type 0 where
  pub others : (other : ℕ) → 0 < other → other ≤ length shape.actors → other ≢ k
      → leaves_at_rest P k other ≡ true
