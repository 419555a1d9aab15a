-- The actors of a journal: those that made steps, with the node and the name of the first endpoint
-- that each of them opened.
use Rattle.std.specs.Prelude.{ℕ, Bool, true, false, ◌==◌, ◌&&◌, List, [], ◌∷◌, ◌++◌, map, slice_get}
use Rattle.std.specs.Prelude.{Option, Some, None, if◌then◌else◌, codes, decimal}
use Rattle.std.specs.List.{list_any}
use Rattle.linx_base.specs.Numbers.{node_of}
use Rattle.linx_base.specs.declared.identity.NodeNo.{NodeNo}
use Rattle.journal.specs.declared.by.By.{By}
use Rattle.journal.specs.declared.by.By.TheVariants.{Actor, Pump}
use Rattle.journal.specs.declared.head.Head.{Head}
use Rattle.journal.specs.declared.head.Head.TheVariants.{Open}
use Rattle.journal.specs.declared.effect.Effect.{Effect}
use Rattle.journal.specs.declared.effect.Effect.TheVariants.{Opened}
use Rattle.journal.specs.declared.effect.Step.{Step}
use Rattle.journal.specs.History.{is_by}
use Rattle.chart_drawing.specs.declared.setting.DrawnActor.{DrawnActor}
use Rattle.journal_charts.specs.Ends.{rightmost}

-- the actor is one of these
abbrev pub has_actor : List ℕ → ℕ → Bool
has_actor actors actor = list_any (λ a. a == actor) actors

-- actors with a further one, unless it is one of them
abbrev pub with_actor : List ℕ → ℕ → List ℕ
with_actor actors actor = if has_actor actors actor then actors else actors ++ actor ∷ []

-- actors with the maker of a step, where it is an actor
abbrev pub with_maker : List ℕ → By → List ℕ
with_maker actors (Actor actor) = with_actor actors actor
with_maker actors (Pump link) = actors

-- the actors that made steps, in the order of their first ones
abbrev pub makers_of : List Step → List ℕ
makers_of [] = []
makers_of (s ∷ P) = with_maker (makers_of P) s.by

-- a head opens an endpoint
abbrev pub is_open : Head → Bool
is_open (Open name) = true
is_open _ = false

-- an actor opens an endpoint in this step
abbrev pub is_opening : ℕ → Step → Bool
is_opening actor s = is_by s.by actor && is_open s.head

-- what was found before, or else this step where it is one
abbrev pub or_step : Option Step → Bool → Step → Option Step
or_step None is_one s = if is_one then Some s else None
or_step (Some first) is_one s = Some first

-- the step in which an actor opened its first endpoint
abbrev pub first_open : List Step → ℕ → Option Step
first_open [] actor = None
first_open (s ∷ P) actor = or_step (first_open P actor) (is_opening actor s) s

-- the node that an effect opens an endpoint on; right of all nodes where it opens none
abbrev pub node_opened_by : Effect → NodeNo
node_opened_by (Opened i) = record { 0 = node_of i }
node_opened_by _ = record { 0 = rightmost }

-- the node that a first effect opens an endpoint on
abbrev pub node_opened : Option Effect → NodeNo
node_opened None = record { 0 = rightmost }
node_opened (Some e) = node_opened_by e

-- the node on which this step opened an endpoint; right of all nodes where there is no such step
abbrev pub node_of_opening : Option Step → NodeNo
node_of_opening None = record { 0 = rightmost }
node_of_opening (Some s) = node_opened (slice_get s.effects 0)

-- the name by which a head opens an endpoint, no name where it opens none
abbrev pub name_in : Head → List ℕ
name_in (Open name) = name
name_in _ = []

-- the name that an opening gives, no name where there is none
abbrev pub name_of_open : Option Step → List ℕ
name_of_open None = []
name_of_open (Some s) = name_in s.head

-- what an actor without a name is called: `A`, and its number
abbrev pub numbered_name : ℕ → List ℕ
numbered_name actor = codes "A" ++ decimal actor

-- an actor with its number, and the node and the name of its first endpoint
abbrev pub drawn_actor : List Step → ℕ → DrawnActor
drawn_actor S actor = record {
  actor = actor;
  node = node_of_opening (first_open S actor);
  caption = numbered_name actor;
  subcaption = name_of_open (first_open S actor);
}

-- ALL ACTORS THAT MADE STEPS
abbrev pub actors_of : List Step → List DrawnActor
actors_of S = map (drawn_actor S) (makers_of S)
