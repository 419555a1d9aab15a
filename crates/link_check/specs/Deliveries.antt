-- What a packet may bring, by what is known where it is handed over.
use Rattle.std.specs.Prelude.{ℕ, ◌==◌, Bool, true, false, not, ◌&&◌, List, filter, is_none}
use Rattle.std.specs.Prelude.{is_some, nat_lt, slice_get, Option, Some, None}
use Rattle.std.specs.List.{list_any}
use Rattle.std.specs.Str.{bytes_eq}
use Rattle.linx_base.specs.Numbers.{is_on}
use Rattle.linx_base.specs.SigNotes.{SigNote}
use Rattle.linx_base.specs.declared.identity.Inc.{Inc}
use Rattle.linx_base.specs.declared.identity.LinkNo.{LinkNo}
use Rattle.linx_base.specs.declared.identity.NodeNo.{NodeNo}
use Rattle.linx_base.specs.declared.identity.Peer.TheVariants.{There}
use Rattle.linx_base.specs.declared.identity.Session.{Session}
use Rattle.linx_base.specs.declared.identity.Side.{Side}
use Rattle.linx_base.specs.Sides.{other_of}
use Rattle.journal.specs.declared.effect.Effect.{Effect}
use Rattle.journal.specs.declared.effect.Effect.TheVariants.{Arrived, Down, Gone, Met, Up}
use Rattle.journal.specs.declared.effect.Step.{Step}
use Rattle.node_kernel.specs.Nodes.{NodeState, is_living, is_open}
use Rattle.link_tables.specs.Arrivals.{count_in}
use Rattle.link_tables.specs.Marks.{is_closing_of, is_meeting_of, is_opening_of, marks_left}
use Rattle.link_tables.specs.Marks.{opened_as}
use Rattle.link_tables.specs.Sent.{flows_of, is_from, notes_of, sent_left}
use Rattle.link_tables.specs.Sides.{SideSoFar, had_in, own_in, side_left}
use Rattle.link_tables.specs.declared.marks.Mark.{Mark}
use Rattle.link_tables.specs.declared.sent.Flow.{Flow}
use Rattle.link_tables.specs.declared.sent.SentOver.{SentOver}

-- WHAT IS KNOWN where a packet is handed over: the node that it comes to, with its number, the
-- number of the one that it comes from, the link with its two sides, and what was opened, closed,
-- met and sent so far, and how much arrived
pub record Known : Type 0 where
  pub node : NodeState
  pub at : NodeNo
  pub other : NodeNo
  pub link : LinkNo
  pub here : SideSoFar
  pub there : SideSoFar
  pub marks : List Mark
  pub sent : List SentOver
  pub arrived : List (Flow × ℕ)

-- as a history leaves it, where the packet comes to this side, and so much arrived
abbrev pub known_left : List Step → NodeState → (at other : NodeNo) → LinkNo → Side
    → List (Flow × ℕ) → Known
known_left P node at other l side arrived = record {
  node = node;
  at = at;
  other = other;
  link = l;
  here = side_left P at.0 l.0 side;
  there = side_left P other.0 l.0 (other_of side);
  marks = marks_left P;
  sent = sent_left P;
  arrived = arrived;
}

-- the session is the one that is up
abbrev pub is_session : Option Session → Session → Bool
is_session None x = false
is_session (Some z) x = z.0 == x.0

-- a pair is below the session that the other side has now
abbrev pub is_passed : Option Session → Session → Bool
is_passed None now = false
is_passed (Some y) now = nat_lt y.0 now.0

-- SESSIONS. A side that is down goes up in its own session, with one that the other side has or had
abbrev pub may_go_up : Known → Session → Session → Bool
may_go_up d x y = is_none d.here.up && (x.0 == (own_in d.here).0 && had_in d.there y)

-- it goes down by a packet where the other side has a greater session than its pair
abbrev pub may_go_down : Known → Session → Bool
may_go_down d x = is_session d.here.up x && is_passed d.here.pair (own_in d.there)

-- the node across opened the incarnation
abbrev pub was_opened_there : Known → Inc → Bool
was_opened_there d a = is_on d.other.0 a && list_any (is_opening_of a) d.marks

-- ARRIVALS. The flow from an endpoint to a peer over a link
abbrev pub flow_of : Inc → LinkNo → Session → Inc → Flow
flow_of at link session peer =
    record { at = at; link = link; session = session; peer = peer }

-- what incarnation a sent in session y to endpoint b, behind what arrived there in session x
abbrev pub next_sent : Known → (x y : Session) → (a b : Inc) → Option SigNote
next_sent d x y a b =
    slice_get (notes_of (flow_of a d.link y b) d.sent) (count_in d.arrived (flow_of b d.link x a))

-- it is this note
abbrev pub is_note : Option SigNote → SigNote → Bool
is_note None note = false
is_note (Some next) note = next.number == note.number && bytes_eq next.bytes note.bytes

-- the next one is this note, where the session has a pair
abbrev pub comes_next : Option Session → Known → Session → (a b : Inc) → SigNote → Bool
comes_next None d x a b note = false
comes_next (Some y) d x a b note = is_note (next_sent d x y a b) note

-- a signal arrives at an open endpoint from a living peer of the node across, as the next one
abbrev pub may_arrive : Known → Session → (a b : Inc) → SigNote → Bool
may_arrive d x a b note =
    is_open d.node.endpoints b
    && (is_living d.node (There d.link x a)
    && (was_opened_there d a && comes_next d.here.pair d x a b note))

-- MEETINGS. This is the name, if there is one, or else no name
abbrev pub named_as : Option (List ℕ) → List ℕ → Bool
named_as None name = is_none (slice_get name 0)
named_as (Some v) name = bytes_eq v name

-- the incarnation was opened with this name
abbrev pub was_named : Known → Inc → List ℕ → Bool
was_named d a name = named_as (opened_as a d.marks) name

-- a peer is met once in the session that is up, by the name that it was opened with there
abbrev pub may_meet : Known → Session → Inc → List ℕ → Bool
may_meet d x a name =
    is_session d.here.up x
    && (was_opened_there d a
    && (was_named d a name
    && not (list_any (is_meeting_of d.at.0 (There d.link x a)) d.marks)))

-- PARTINGS. A signal of a flow has still to come to an endpoint that is open
abbrev pub is_to_come : Known → Session → Flow → Bool
is_to_come d x f =
    is_some (next_sent d x f.session f.at f.peer) && is_open d.node.endpoints f.peer

-- one of those that incarnation a sent in session y has
abbrev pub is_due : Known → (x y : Session) → Inc → Bool
is_due d x y a = list_any (is_to_come d x) (filter (is_from a d.link y) (flows_of d.sent))

-- none of them has
abbrev pub all_came : Option Session → Known → Session → Inc → Bool
all_came None d x a = false
all_came (Some y) d x a = not (is_due d x y a)

-- a peer that goes was alive and is closed, and each open endpoint has got all that it sent
abbrev pub may_part : Known → Session → Inc → Bool
may_part d x a =
    is_living d.node (There d.link x a)
    && (list_any (is_closing_of a) d.marks && all_came d.here.pair d x a)

-- WHAT BEGINS WITH AN EFFECT may come
abbrev pub may_be_first : Known → Effect → Bool
may_be_first d (Up n l x y) = may_go_up d x y
may_be_first d (Down n l x) = may_go_down d x
may_be_first d (Arrived b (There l x a) note) = may_arrive d x a b note
may_be_first d (Met n (There l x a) name) = may_meet d x a name
may_be_first d (Gone n (There l x a)) = may_part d x a
may_be_first d _ = false

-- WHAT A PACKET BRINGS may come: its first effect, if there is one, tells what it is
abbrev pub may_bring_if : Known → Option Effect → Bool
may_bring_if d None = true
may_bring_if d (Some e) = may_be_first d e

-- what a packet brings may come: its first effect tells what it is, and none is always one
abbrev pub may_bring : Known → List Effect → Bool
may_bring d es = may_bring_if d (slice_get es 0)
