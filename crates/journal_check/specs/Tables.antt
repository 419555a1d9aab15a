-- What a checker knows, and how it changes with a step.
use Rattle.std.specs.Prelude.{ℕ, zero, suc, ◌-◌, ◌≡◌, ◌<◌, Bool, true, false, not, ◌&&◌, ◌||◌}
use Rattle.std.specs.Prelude.{◌==◌, List, [], ◌++◌, length, map, nat_lt, nat_le, is_none}
use Rattle.std.specs.Prelude.{Option, Some, None, slice_get, slice_set}
use Rattle.linx_base.specs.declared.identity.Inc.{Inc}
use Rattle.linx_base.specs.declared.identity.LinkNo.{LinkNo}
use Rattle.linx_base.specs.declared.identity.NodeNo.{NodeNo}
use Rattle.linx_base.specs.declared.identity.Side.{Side}
use Rattle.sigsel.specs.Selection.{first_selected}
use Rattle.sigsel.specs.declared.sigsel.Sigsel.{Sigsel}
use Rattle.journal.specs.declared.by.By.{By}
use Rattle.journal.specs.declared.by.By.TheVariants.{Actor, Pump}
use Rattle.journal.specs.declared.effect.Effect.{Effect}
use Rattle.journal.specs.declared.effect.Step.{Step}
use Rattle.journal.specs.declared.head.Head.{Head}
use Rattle.journal.specs.declared.head.Head.TheVariants.{TakeNone, Waits, Restart}
use Rattle.journal.specs.Effects.{closings}
use Rattle.journal.specs.History.{is_by}
use Rattle.journal.specs.Laws.{may_make}
use Rattle.journal.specs.Shapes.{Shape, node_by}
use Rattle.link_laws.specs.Brought.{Brought}
use Rattle.link_laws.specs.Laws.{IsLegal}
use Rattle.node_kernel.specs.Calls.{after_restart}
use Rattle.node_kernel.specs.Nodes.{NodeState, OpenEndpoint, empty_node}
use Rattle.node_kernel.specs.Nodes.{endpoint_limit, items_at}
use Rattle.link_check.specs.Books.{BookSoFar, IsBookLeft, IsPast as IsBookPast, end_no}
use Rattle.link_check.specs.Downs.{downs_in}
use Rattle.link_check.specs.Told.{IsReady as IsBookReady, ends_in, kernel_in}
use Rattle.fabric.specs.Brings.{after_brought}
use Rattle.fabric.specs.Remains.{AreNodesLeft, IsLaidOut}
use Rattle.journal_check.specs.Brought.{effects_brought, side_reached, told_by}
use Rattle.journal_check.specs.Calls.{call_after, call_effects}
use Rattle.journal_check.specs.Standings.{AreStandingsLeft, standing_of, standing_past}
use Rattle.journal_check.specs.declared.standing.Standing.{Standing}

-- WHAT A CHECKER KNOWS: the shape, a kernel for each node, how each actor stands, and a book of all
-- links
pub record Known : Type 0 where
  pub shape : Shape
  pub kernels : List NodeState
  pub standings : List Standing
  pub book : BookSoFar

-- WHAT IT KEEPS: its tables are those that a legal history leaves
pub record AreLeft (P : List Step) (t : Known) : Type 0 where
  pub laid_out : IsLaidOut (length t.kernels) t.shape
  pub counted : length t.standings ≡ length t.shape.actors
  pub kernels : AreNodesLeft P t.kernels
  pub standings : AreStandingsLeft P t.standings
  pub book : IsBookLeft P t.shape.links t.book
  pub legal : IsLegal t.shape P

-- a kernel takes one more opening
pub record HasRoom (n : NodeState) : Type 0 where
  pub openings : n.openings < 4294967295
  pub endpoints : length n.endpoints < endpoint_limit

-- the tables are ready for one more step
pub record IsReady (t : Known) : Type 0 where
  pub laid_out : IsLaidOut (length t.kernels) t.shape
  pub counted : length t.standings ≡ length t.shape.actors
  pub room : (n : ℕ) (k : NodeState) → slice_get t.kernels n ≡ Some k → HasRoom k
  pub book : IsBookReady t.book t.kernels

-- an actor makes steps until its end
abbrev pub makes_steps : Option Standing → Bool
makes_steps None = false
makes_steps (Some s) = not s.ended

-- a step is made by one who may make it
abbrev pub is_made_by_maker : Known → By → Head → Bool
is_made_by_maker t (Actor k) head = makes_steps (standing_of t.standings k)
is_made_by_maker t (Pump l) head =
    nat_lt 0 l.0 && (nat_le l.0 (length t.shape.links) && may_make (Pump l) head)

-- the endpoint of who stands so
abbrev pub endpoint_in : Option Standing → Option Inc
endpoint_in None = None
endpoint_in (Some s) = s.endpoint

-- the endpoint of a maker; a pump has none
abbrev pub endpoint_of_maker : Known → By → Option Inc
endpoint_of_maker t (Actor k) = endpoint_in (standing_of t.standings k)
endpoint_of_maker t (Pump l) = None

-- the filter that who stands so waits with
abbrev pub waits_in_standing : Option Standing → Option Sigsel
waits_in_standing None = None
waits_in_standing (Some s) = s.waits

-- who stands so has ended
abbrev pub ended_in : Option Standing → Bool
ended_in None = false
ended_in (Some s) = s.ended

-- the kernel of a node by its number, from 1 on
abbrev pub kernel_of : List NodeState → ℕ → Option NodeState
kernel_of kernels zero = None
kernel_of kernels (suc n) = slice_get kernels n

-- a kernel that was found, or else an empty one
abbrev pub kernel_or_empty : Option NodeState → NodeState
kernel_or_empty None = empty_node (record { 0 = 0 })
kernel_or_empty (Some k) = k

-- the kernel of the node that a maker is on, or an empty one where there is none
abbrev pub kernel_of_maker : Known → By → NodeState
kernel_of_maker t by = kernel_or_empty (kernel_of t.kernels (node_by t.shape by))

-- who waits with a filter at an endpoint of this node waits in vain
abbrev pub is_vain_at : NodeState → Option Sigsel → Option Inc → Bool
is_vain_at n (Some filter) (Some j) = is_none (first_selected filter (items_at n.endpoints j))
is_vain_at n (Some filter) None = false
is_vain_at n None me = false

-- an actor is idle, as the tables tell it
abbrev pub is_idle_in : Known → ℕ → Bool
is_idle_in t k =
    is_vain_at (kernel_of_maker t (Actor k)) (waits_in_standing (standing_of t.standings k))
    (endpoint_in (standing_of t.standings k))

-- another actor leaves actor k at rest
abbrev pub leaves_at_rest_in : Known → ℕ → ℕ → Bool
leaves_at_rest_in t k other =
    ended_in (standing_of t.standings other) || (is_idle_in t other && nat_lt k other)

-- each of the first so many actors is actor k, or leaves it at rest
abbrev pub all_leave_at_rest_in : Known → ℕ → ℕ → Bool
all_leave_at_rest_in t k zero = true
all_leave_at_rest_in t k (suc n) =
    all_leave_at_rest_in t k n && ((k == suc n) || leaves_at_rest_in t k (suc n))

-- an actor may find none, and may say that it waits
abbrev pub is_patient_actor : Known → ℕ → Head → Bool
is_patient_actor t k (TakeNone filter) = all_leave_at_rest_in t k (length t.shape.actors)
is_patient_actor t k (Waits filter) = is_none (waits_in_standing (standing_of t.standings k))
is_patient_actor t k _ = true

-- a maker may find none or wait as this head says; a pump always may
abbrev pub is_patient : Known → By → Head → Bool
is_patient t (Actor k) head = is_patient_actor t k head
is_patient t (Pump l) head = true

-- the node that a head restarts
abbrev pub restarted_node : Head → Option NodeNo
restarted_node (Restart m) = Some m
restarted_node _ = None

-- what a restart closes at the kernel of its node: all endpoints that are open there
abbrev pub restart_closings : Option NodeState → List Effect
restart_closings None = []
restart_closings (Some n) = closings (map (λ (e : OpenEndpoint). e.inc) n.endpoints)

-- the effects of a restart: the ends of the sessions of its node, and what it closes there
abbrev pub restart_effects : Known → ℕ → List Effect
restart_effects t node =
    downs_in t.book node (length t.book.links) ++ restart_closings (kernel_of t.kernels node)

-- the effects of the k-th step: of a restart at the node that it restarts, of a call at its maker's
abbrev pub effects_of_step : Option NodeNo → Known → ℕ → By → Head → List Effect
effects_of_step (Some m) t k by head = restart_effects t m.0
effects_of_step None t k by head =
    call_effects (kernel_of_maker t by) k (endpoint_of_maker t by) head

-- THE EFFECTS of a step that is the k-th, by its maker and its head
abbrev pub effects_in : Known → ℕ → By → Head → List Effect
effects_in t k by head = effects_of_step (restarted_node head) t k by head

-- the kernels once the node of this number, whose kernel this is, was restarted
abbrev pub restarted_in : Option NodeState → List NodeState → ℕ → List NodeState
restarted_in None kernels node = kernels
restarted_in (Some n) kernels node = slice_set kernels (node - 1) (after_restart n)

-- the kernels after the k-th step: a restart changes that of the node that it restarts, a call that
-- of its maker's
abbrev pub kernels_past : Option NodeNo → Known → ℕ → By → Head → List NodeState
kernels_past (Some m) t k by head = restarted_in (kernel_of t.kernels m.0) t.kernels m.0
kernels_past None t k by head =
    slice_set t.kernels (node_by t.shape by - 1)
    (call_after (kernel_of_maker t by) k (endpoint_of_maker t by) head)

-- what a step off the links leaves of the kernels, by its number, its maker and its head
abbrev pub kernels_after : Known → ℕ → By → Head → List NodeState
kernels_after t k by head = kernels_past (restarted_node head) t k by head

-- ON THE LINKS. The node at a side of a link
abbrev pub node_there : Known → LinkNo → Side → NodeNo
node_there t l side = end_no (ends_in t.book l) side

-- its kernel
abbrev pub kernel_there : Known → LinkNo → Side → NodeState
kernel_there t l side = kernel_in t.kernels (node_there t l side)

-- the effects there of what these effects tell
abbrev pub effects_there : Known → LinkNo → Side → List Effect → List Effect
effects_there t l side es =
    effects_brought (node_there t l side) (kernel_there t l side) l (told_by es)

-- the kernels once this was brought in step k to the node of this number
abbrev pub kernels_with : List NodeState → ℕ → NodeNo → LinkNo → Brought → List NodeState
kernels_with kernels k at l what =
    slice_set kernels (at.0 - 1) (after_brought (kernel_in kernels at) l what k)

-- the kernels after the k-th step, which brings to a side of a link what its effects tell
abbrev pub kernels_brought : Known → ℕ → LinkNo → Side → List Effect → List NodeState
kernels_brought t k l side es = kernels_with t.kernels k (node_there t l side) l (told_by es)

-- the kernels after a step that reaches a side of a link, or is off the links
abbrev pub kernels_reached : Option (LinkNo × Side) → Known → ℕ → Step → List NodeState
kernels_reached None t k s = kernels_after t k s.by s.head
kernels_reached (Some at) t k s = kernels_brought t k at.0 at.1 s.effects

-- WHAT A STEP LEAVES OF THE KERNELS, by its number
abbrev pub kernels_left : Known → ℕ → Step → List NodeState
kernels_left t k s = kernels_reached (side_reached s.head) t k s

-- each standing is past a step
pub record ArePast (s : Step) (old new : List Standing) : Type 0 where
  pub counted : length new ≡ length old
  pub each : (k : ℕ) (x : Standing) → slice_get old k ≡ Some x
      → slice_get new k ≡ Some (standing_past (is_by s.by (suc k)) s.head s.effects x)

-- all but the kernels is past a step, whose maker has this endpoint
pub record HavePassed (me : Option Inc) (s : Step) (old new : Known) : Type 0 where
  pub shape : new.shape ≡ old.shape
  pub kernels : new.kernels ≡ old.kernels
  pub standings : ArePast s old.standings new.standings
  pub book : IsBookPast me s old.book new.book

-- WHAT IT KNOWS after a step that is the k-th
pub record IsPast (k : ℕ) (s : Step) (old new : Known) : Type 0 where
  pub shape : new.shape ≡ old.shape
  pub kernels : new.kernels ≡ kernels_left old k s
  pub standings : ArePast s old.standings new.standings
  pub book : IsBookPast (endpoint_of_maker old s.by) s old.book new.book
