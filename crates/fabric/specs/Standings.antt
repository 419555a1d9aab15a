-- How a step changes the standings of the actors.
use Rattle.std.specs.Prelude.{ℕ, zero, suc, Bool, false, List, [], ◌∷◌, ◌++◌, is_none, Option}
use Rattle.std.specs.Prelude.{Some, None, if◌then◌else◌, ◌-◌, ◌<◌, ◌≤◌, slice_get, slice_set}
use Rattle.journal.specs.declared.by.By.{By}
use Rattle.journal.specs.declared.by.By.TheVariants.{Actor, Pump}
use Rattle.linx_base.specs.declared.identity.Inc.{Inc}
use Rattle.sigsel.specs.Selection.{first_selected}
use Rattle.sigsel.specs.declared.sigsel.Sigsel.{Sigsel}
use Rattle.journal.specs.declared.effect.Effect.{Effect}
use Rattle.journal.specs.declared.head.Refusal.{Refusal}
use Rattle.journal.specs.History.{is_lost, unless_closed}
use Rattle.node_kernel.specs.Answers.{refused}
use Rattle.node_kernel.specs.Nodes.{NodeState, empty_node, items_at}
use Rattle.node_kernel.specs.declared.ask.Ask.{Ask}
use Rattle.fabric.specs.declared.standing.Standing.{Standing}

-- how an actor stands before its first step
abbrev pub fresh : Standing
fresh = record { endpoint = None; closed = 0; waits = None; ended = false }

-- how an actor stands past the effects of a step, which may close its endpoint
abbrev pub past_effects : ℕ → List Effect → Standing → Standing
past_effects step effects standing = record standing {
  endpoint = unless_closed effects standing.endpoint;
  closed = if is_lost effects standing.endpoint then step else standing.closed;
}

-- what is done of what is asked, unless it is refused
abbrev pub unless_refused : Option Refusal → Ask → Ask
unless_refused None ask = ask
unless_refused (Some reason) ask = refused reason

-- at a node with this state, an actor that stands so waits in vain
abbrev pub vain_with : NodeState → Option Sigsel → Option Inc → Bool
vain_with k (Some filter) (Some j) = is_none (first_selected filter (items_at k.endpoints j))
vain_with k (Some filter) None = false
vain_with k None me = false

-- so many nodes before their first steps, from 1 on
abbrev pub empty_nodes : ℕ → List NodeState
empty_nodes zero = []
empty_nodes (suc n) = empty_nodes n ++ empty_node (record { 0 = suc n }) ∷ []

-- the maker of a step, where it is an actor, is one of so many
abbrev pub IsStanding : ℕ → By → Type 0
IsStanding count (Actor k) = (0 < k) × (k ≤ count)
IsStanding count (Pump link) = Unit {0}

-- a standing that waits no more, where there is one
abbrev pub waiting_none : Option Standing → List Standing → ℕ → List Standing
waiting_none None standings place = standings
waiting_none (Some s) standings place = slice_set standings place (record s { waits = None })

-- the maker of a step, where it is an actor, waits no more
abbrev pub waiting_no_more : By → List Standing → List Standing
waiting_no_more (Actor k) standings =
    waiting_none (slice_get standings (k - 1)) standings (k - 1)
waiting_no_more (Pump link) standings = standings
