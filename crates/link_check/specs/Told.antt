-- The laws of links, as a book and the kernels of the nodes tell them.
use Rattle.std.specs.Prelude.{ℕ, zero, suc, ◌-◌, ◌<◌, ◌≤◌, ◌≡◌, Bool, true, false, ◌&&◌}
use Rattle.std.specs.Prelude.{List}
use Rattle.std.specs.Prelude.{is_none, length, Option, Some, None, slice_get}
use Rattle.std.specs.List.{AllByRecursion}
use Rattle.std.specs.Option.{unwrap_or}
use Rattle.linx_base.specs.Sides.{other_of}
use Rattle.linx_base.specs.declared.frame.LinkDecl.{LinkDecl}
use Rattle.linx_base.specs.declared.identity.LinkNo.{LinkNo}
use Rattle.linx_base.specs.declared.identity.NodeNo.{NodeNo}
use Rattle.linx_base.specs.declared.identity.Side.{Side}
use Rattle.linx_base.specs.declared.identity.Side.TheVariants.{First, Second}
use Rattle.journal.specs.Shapes.{Shape}
use Rattle.journal.specs.declared.effect.Effect.{Effect}
use Rattle.journal.specs.declared.effect.Effect.TheVariants.{Down}
use Rattle.journal.specs.declared.effect.Step.{Step}
use Rattle.journal.specs.declared.head.Head.{Head}
use Rattle.journal.specs.declared.head.Head.TheVariants.{TakeNone, Tick, Wire}
use Rattle.link_laws.specs.Laws.{IsLegal, delivers}
use Rattle.node_kernel.specs.Nodes.{NodeState, empty_node}
use Rattle.link_tables.specs.Sides.{SideSoFar}
use Rattle.link_check.specs.Books.{BookSoFar, IsBookLeft, TakesStep, delivery_at, end_no}
use Rattle.link_check.specs.Cuts.{loses_if_cut}
use Rattle.link_check.specs.Deliveries.{Known, is_session, may_bring}
use Rattle.link_check.specs.Lines.{LineSoFar, fresh_line, side_in}
use Rattle.link_check.specs.Orderly.{IsNodeTold}
use Rattle.link_check.specs.Stillness.{Ends, is_settled, is_still}
use Rattle.link_check.specs.Ticks.{session_to_lose}
use Rattle.link_check.specs.declared.rest.Stir.{Stir}

-- the nodes of a link that there isn't
abbrev pub nowhere : LinkDecl
nowhere = record { first = record { 0 = 0 }; second = record { 0 = 0 }; window = 0; piece = 0 }

-- WHAT IS READ: the nodes of a link of a book, by its number
abbrev pub ends_in : BookSoFar → LinkNo → LinkDecl
ends_in book l = unwrap_or (slice_get book.links (l.0 - 1)) nowhere

-- what is kept of it
abbrev pub line_in : BookSoFar → LinkNo → LineSoFar
line_in book l = unwrap_or (slice_get book.lines (l.0 - 1)) fresh_line

-- the kernel of a node
abbrev pub kernel_in : List NodeState → NodeNo → NodeState
kernel_in kernels n = unwrap_or (slice_get kernels (n.0 - 1)) (empty_node n)

-- what is known where a packet of a link comes to a side
abbrev pub known_at : BookSoFar → List NodeState → LinkNo → Side → Known
known_at book kernels l to =
    delivery_at book (kernel_in kernels (end_no (ends_in book l) to)) l to (ends_in book l)
    (line_in book l)

-- at both its ends
abbrev pub ends_of : BookSoFar → List NodeState → LinkNo → Ends
ends_of book kernels l = record {
  first = known_at book kernels l First;
  second = known_at book kernels l Second;
  cut = (line_in book l).cut;
}

-- REST. A link is still where all that was stirred on it since it was last seen still is settled, or
-- by all that is known at its ends
abbrev pub is_still_by : Ends → Option (List Stir) → Bool
is_still_by ends None = is_still ends
is_still_by ends (Some stirs) = is_settled ends stirs

abbrev pub is_still_at : BookSoFar → List NodeState → LinkNo → Bool
is_still_at book kernels l = is_still_by (ends_of book kernels l) (line_in book l).stirred

-- the first links, so many, are still
abbrev pub all_still : BookSoFar → List NodeState → ℕ → Bool
all_still book kernels zero = true
all_still book kernels (suc k) =
    all_still book kernels k && is_still_at book kernels (record { 0 = suc k })

-- the law of rest: a receive finds none only where every link is still
abbrev pub keeps_rest : BookSoFar → List NodeState → Head → Bool
keeps_rest book kernels (TakeNone filter) = all_still book kernels (length book.links)
keeps_rest book kernels _ = true

-- PACKETS. There are no effects
abbrev pub are_none : List Effect → Bool
are_none es = is_none (slice_get es 0)

-- what a packet brings, which is handed over or not, may come
abbrev pub may_pass_if : Bool → Known → List Effect → Bool
may_pass_if true d es = may_bring d es
may_pass_if false d es = are_none es

-- the law of packets: what a packet brings may come at the side that it goes to
abbrev pub may_pass : BookSoFar → List NodeState → Head → List Effect → Bool
may_pass book kernels (Wire l from verdict) es =
    may_pass_if (delivers verdict) (known_at book kernels l (other_of from)) es
may_pass book kernels _ es = true

-- CUTS. A packet of a link that is cut is lost
abbrev pub keeps_cuts : BookSoFar → Head → Bool
keeps_cuts book (Wire l from verdict) = loses_if_cut (line_in book l).cut verdict
keeps_cuts book _ = true

-- TICKS. What begins with an effect is a loss that may come
abbrev pub may_lose_by : SideSoFar → Effect → Bool
may_lose_by side (Down n l x) = is_session (session_to_lose side) x
may_lose_by side _ = false

-- what a tick of a side brings may come: its first effect, if there is one, tells what it is
abbrev pub may_lose_if : SideSoFar → Option Effect → Bool
may_lose_if side None = true
may_lose_if side (Some e) = may_lose_by side e

abbrev pub may_lose : SideSoFar → List Effect → Bool
may_lose side es = may_lose_if side (slice_get es 0)

-- the law of ticks: what a tick tells may come at the side that ticks
abbrev pub may_tick : BookSoFar → Head → List Effect → Bool
may_tick book (Tick l side) es = may_lose (side_in (line_in book l) side) es
may_tick book _ es = true

-- WHAT A BOOK IS READ WITH. A link is between two nodes of so many
pub record IsBetween (nodes : ℕ) (ends : LinkDecl) : Type 0 where
  pub first_above : 0 < ends.first.0
  pub first_within : ends.first.0 ≤ nodes
  pub second_above : 0 < ends.second.0
  pub second_within : ends.second.0 ≤ nodes

-- A BOOK IS READY to judge a step with these kernels: each link is between two of their nodes, and the
-- book takes one more step
pub record IsReady (book : BookSoFar) (kernels : List NodeState) : Type 0 where
  pub takes : TakesStep book
  pub between : AllByRecursion (IsBetween (length kernels)) book.links

-- the link is one of the book
pub record IsThere (book : BookSoFar) (l : LinkNo) : Type 0 where
  pub above : 0 < l.0
  pub within : l.0 ≤ length book.links

-- THE BOOK AND THE KERNELS are those that a legal history leaves
pub record AreLeft (shape : Shape) (P : List Step) (book : BookSoFar) (kernels : List NodeState)
    : Type 0 where
  pub legal : IsLegal shape P
  pub short : length P < 4294967294
  pub tables : IsBookLeft P shape.links book
  pub nodes : (n : ℕ) (node : NodeState) → slice_get kernels n ≡ Some node
      → IsNodeTold P (suc n) node
