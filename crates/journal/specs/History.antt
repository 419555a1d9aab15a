use Rattle.std.specs.Prelude.{ℕ, suc, ◌+◌, Bool, true, false, not, ◌&&◌, ◌==◌, List, [], ◌∷◌, ◌++◌}
use Rattle.std.specs.Prelude.{length, filter, Option, Some, None, if◌then◌else◌}
use Rattle.std.specs.List.{list_any, filter_map}
use Rattle.linx_base.specs.Numbers.{inc_of, is_on}
use Rattle.linx_base.specs.Peers.{same_inc}
use Rattle.linx_base.specs.declared.identity.Inc.{Inc}
use Rattle.journal.specs.declared.by.By.{By}
use Rattle.journal.specs.declared.by.By.TheVariants.{Actor, Pump}
use Rattle.journal.specs.declared.head.Head.{Head}
use Rattle.journal.specs.declared.head.Head.TheVariants.{Open, Ended}
use Rattle.journal.specs.declared.effect.Effect.{Effect}
use Rattle.journal.specs.declared.effect.Effect.TheVariants.{Opened, Closed}
use Rattle.journal.specs.declared.effect.Step.{Step}

-- every effect so far, oldest first
abbrev pub effects_of : List Step → List Effect
effects_of [] = []
effects_of (s ∷ P) = effects_of P ++ s.effects

-- the step was made by this actor
abbrev pub is_by : By → ℕ → Bool
is_by (Actor a) k = a == k
is_by (Pump link) k = false

-- the incarnation that an effect opens
abbrev pub opened_in : Effect → Option Inc
opened_in (Opened i) = Some i
opened_in _ = None

-- the effect closes this incarnation
abbrev pub closes : Inc → Effect → Bool
closes i (Closed j) = same_inc i j
closes i _ = false

-- the last incarnation that the effects open, or else this one
abbrev pub last_opened : Option Inc → List Effect → Option Inc
last_opened before [] = before
last_opened before (Opened i ∷ es) = last_opened (Some i) es
last_opened before (_ ∷ es) = last_opened before es

-- the incarnation that an actor opened last
abbrev pub last_endpoint : List Step → ℕ → Option Inc
last_endpoint [] k = None
last_endpoint (s ∷ P) k =
    if is_by s.by k then last_opened (last_endpoint P k) s.effects else last_endpoint P k

-- an incarnation was closed
abbrev pub is_closed : List Step → Inc → Bool
is_closed P i = list_any (closes i) (effects_of P)

-- what of an endpoint is left by effects: it is gone where they close it
abbrev pub unless_closed : List Effect → Option Inc → Option Inc
unless_closed effects None = None
unless_closed effects (Some i) = if list_any (closes i) effects then None else Some i

-- the endpoint of an actor: the one that it opened last, until that is closed
abbrev pub endpoint_of : List Step → ℕ → Option Inc
endpoint_of [] k = None
endpoint_of (s ∷ P) k =
    unless_closed s.effects
    (if is_by s.by k then last_opened (endpoint_of P k) s.effects else endpoint_of P k)

-- the effects close this endpoint
abbrev pub is_lost : List Effect → Option Inc → Bool
is_lost effects None = false
is_lost effects (Some i) = list_any (closes i) effects

-- the step that closed the last endpoint that an actor lost, or 0
abbrev pub closed_step : List Step → ℕ → ℕ
closed_step [] k = 0
closed_step (s ∷ P) k =
    if is_lost s.effects (endpoint_of P k) then suc (length P) else closed_step P k

-- the endpoint of a step's maker; a pump has none
abbrev pub endpoint_by : List Step → By → Option Inc
endpoint_by P (Actor k) = endpoint_of P k
endpoint_by P (Pump link) = None

-- the incarnations opened so far, in order of opening
abbrev pub openings : List Step → List Inc
openings P = filter_map opened_in (effects_of P)

-- the incarnations that effects open on a node, in order
abbrev pub opened_by : ℕ → List Effect → List Inc
opened_by node effects = filter (is_on node) (filter_map opened_in effects)

-- the open endpoints of a node, in order of opening: those opened so far, until they are closed
abbrev pub open_endpoints : List Step → ℕ → List Inc
open_endpoints [] node = []
open_endpoints (s ∷ P) node =
    filter (λ i. not (list_any (closes i) s.effects))
    (open_endpoints P node ++ opened_by node s.effects)

-- how many endpoints were opened on a node
abbrev pub opened_on : List Step → ℕ → ℕ
opened_on [] node = 0
opened_on (s ∷ P) node = opened_on P node + length (opened_by node s.effects)

-- the incarnation of the next opening on a node, after so many
abbrev pub next_inc : ℕ → ℕ → Inc
next_inc node opened = inc_of node (opened + 1)

-- the effect opens this incarnation
abbrev pub opens : Inc → Effect → Bool
opens i (Opened j) = same_inc i j
opens i _ = false

-- the name in the head of an opening
abbrev pub name_in : Head → Option (List ℕ)
name_in (Open name) = Some name
name_in _ = None

-- the name that an incarnation was opened with
abbrev pub opening_name : List Step → Inc → Option (List ℕ)
opening_name [] i = None
opening_name (s ∷ P) i = if list_any (opens i) s.effects then name_in s.head else opening_name P i

-- the bytes of a name that was found; none where none was
abbrev pub name_or_none : Option (List ℕ) → List ℕ
name_or_none None = []
name_or_none (Some name) = name

-- the name that an incarnation was opened with; no bytes for what was never opened
abbrev pub name_of : List Step → Inc → List ℕ
name_of P i = name_or_none (opening_name P i)

-- the head ends an actor
abbrev pub is_end : Head → Bool
is_end Ended = true
is_end _ = false

-- an actor made its last step
abbrev pub has_ended : List Step → ℕ → Bool
has_ended P k = list_any (λ s. is_by s.by k && is_end s.head) P
