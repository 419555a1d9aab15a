-- What a node is told of a packet or a tick, over a link: what its kernel becomes, with which
-- effects, and what the side's trunk hears in answer.
use Rattle.std.specs.Prelude.{ℕ, ◌≡◌, Bool, true, false, List, [], ◌∷◌, length, Option, Some, None}
use Rattle.std.specs.Prelude.{◌+◌}
use Rattle.std.specs.Bool.{IsTrue}
use Rattle.linx_base.specs.declared.frame.Verdict.{Verdict}
use Rattle.linx_base.specs.declared.frame.Verdict.TheVariants.{Deliver, Lose, Repeat, Swap}
use Rattle.linx_base.specs.declared.identity.Inc.{Inc}
use Rattle.linx_base.specs.declared.identity.LinkNo.{LinkNo}
use Rattle.linx_base.specs.declared.identity.Peer.TheVariants.{There}
use Rattle.linx_base.specs.declared.identity.Side.{Side}
use Rattle.linx_base.specs.Sides.{other_of}
use Rattle.carrier.specs.Events.{flight_from, handed_by}
use Rattle.journal.specs.Effects.{losing, meeting, parting}
use Rattle.journal.specs.Logs.{Log}
use Rattle.journal.specs.declared.by.By.{By}
use Rattle.journal.specs.declared.head.Head.{Head}
use Rattle.journal.specs.declared.effect.Effect.{Effect}
use Rattle.journal.specs.declared.effect.Effect.TheVariants.{Arrived, Up}
use Rattle.link_laws.specs.Brought.{Brought, arrives, goes_down, goes_up, meets, nothing, parts}
use Rattle.link_laws.specs.Ends.{node_at}
use Rattle.linx_base.specs.Pending.{names_over}
use Rattle.node_kernel.specs.Nodes.{NodeState, first_named, is_open}
use Rattle.run_trunks.specs.Changes.{at_link}
use Rattle.rlnh_end.specs.declared.heard.Heard.{Heard}
use Rattle.run_trunks.specs.States.{TrunksState, resting, trunks_of}
use Rattle.trunk.specs.Events.{HasNumbersLeft, IsReading, TrunkState, asked_at, delivered, kept_of}
use Rattle.trunk.specs.Events.{lost_from, published_at, side_of, swapped_from, told_by}
use Rattle.trunk.specs.Laws.{MayPublish}
use Rattle.trunk.specs.declared.up.TrunkUp.{TrunkUp}
use Rattle.trunk.specs.declared.up.TrunkUp.TheVariants.{Arrived as UpArrived, Asked, WentUp}
use Rattle.trunk_moves.specs.Packets.{asks_for, place_of, told_brings}
use Rattle.fabric.specs.Brings.{after_brought}
use Rattle.fabric.specs.Run.{Layout}
use Rattle.fabric.specs.declared.bringing.At.{At}
use Rattle.fabric.specs.declared.wires.Coming.{Coming}
use Rattle.fabric.specs.declared.wires.Coming.TheVariants.{Gone, Never, Stays}

-- the effects at a node of what is brought over a link
abbrev pub brought_on : NodeState → LinkNo → Brought → List Effect
brought_on k l nothing = []
brought_on k l (goes_up x y) = Up k.node l x y ∷ []
brought_on k l (goes_down x) = losing k.node l x k.attaches
brought_on k l (arrives x a b note) = Arrived b (There l x a) note ∷ []
brought_on k l (meets x a name) = meeting k.node l (There l x a) name k.hunts
brought_on k l (parts x a) = parting k.node (There l x a) k.attaches

-- the effects at a node of what a side of a link hands up
abbrev pub told_on : NodeState → At → TrunkUp → List Effect
told_on k at up = brought_on k at.link (told_brings at.session up)

-- the node after a step in which a side of a link handed this up
abbrev pub node_told : NodeState → At → TrunkUp → ℕ → NodeState
node_told k at up step = after_brought k at.link (told_brings at.session up) step

-- a side that went up asks for the name of each hunt that is pending over the link
abbrev pub asks_over : NodeState → LinkNo → Side → List TrunkState → List TrunkState
asks_over k l side ts = at_link l (asks_for side (names_over l k.hunts)) ts

-- a side publishes an endpoint of this name, where there is one
abbrev pub publishes_over : LinkNo → Side → List ℕ → Option Inc → List TrunkState → List TrunkState
publishes_over l side name None ts = ts
publishes_over l side name (Some i) ts = at_link l (published_at side i name) ts

-- a side that is asked for a name publishes the first endpoint of that name, where there is one
abbrev pub answers_over : NodeState → LinkNo → Side → List ℕ → List TrunkState → List TrunkState
answers_over k l side name ts = publishes_over l side name (first_named k.endpoints name) ts

-- THE TRUNKS once a node was told: a side that went up asks for names, one that is asked for a name
-- answers
abbrev pub answers_told : NodeState → At → TrunkUp → List TrunkState → List TrunkState
answers_told k at (WentUp session peer) ts = asks_over k at.link at.side ts
answers_told k at (Asked name) ts = answers_over k at.link at.side name ts
answers_told k at up ts = ts

-- a side may publish the first endpoint of a name
abbrev pub MayAnswer : NodeState → LinkNo → Side → List ℕ → List TrunkState → Type 0
MayAnswer k l side name ts = (i : Inc) → first_named k.endpoints name ≡ Some i
    → MayPublish (side_of side (trunks_of ts l.0)) i name

-- a side has numbers left for each of these questions, asked one after the other over a link, and
-- for one event more
abbrev pub HasNumbersOver : LinkNo → Side → List (List ℕ) → List TrunkState → Type 0
HasNumbersOver l side [] ts = HasNumbersLeft side (trunks_of ts l.0)
HasNumbersOver l side (name ∷ names) ts =
    HasNumbersLeft side (trunks_of ts l.0)
    × HasNumbersOver l side names (at_link l (asked_at side name) ts)

-- a node may be told of this: a signal is for an open endpoint, a name that is asked for may be
-- published, and the side has numbers left for what it says then
abbrev pub MayTellNode : NodeState → At → TrunkUp → List TrunkState → Type 0
MayTellNode k at (UpArrived from to signal) ts = IsTrue (is_open k.endpoints to)
MayTellNode k at (WentUp session peer) ts =
    HasNumbersOver at.link at.side (names_over at.link k.hunts) ts
MayTellNode k at (Asked name) ts =
    MayAnswer k at.link at.side name ts × HasNumbersLeft at.side (trunks_of ts at.link.0)
MayTellNode k at up ts = Unit {0}

-- ---- where and how a packet comes

-- a side of a link: its node, and the session of its end
pub record IsThere (f : Layout) (l : LinkNo) (side : Side) (at : At) : Type 0 where
  pub node : at.node.0 ≡ node_at f.shape l side
  pub link : at.link ≡ l
  pub side_is : at.side ≡ side
  pub session : at.session ≡ (kept_of side (trunks_of f.trunks l.0)).now.session

-- what a verdict makes of a packet: it comes and is gone, or comes and stays in flight, or doesn't
-- come
abbrev pub comes_by : Verdict → Coming
comes_by Deliver = Gone
comes_by Repeat = Stays
comes_by _ = Never

-- a packet comes, and is kept in flight or not
abbrev pub coming_kept : Bool → Coming
coming_kept true = Stays
coming_kept false = Gone

-- the trunk of a link after a verdict that hands no packet over
abbrev pub passed_by : Side → Verdict → TrunkState → TrunkState
passed_by from Lose t = lost_from from 0 t
passed_by from (Swap k) t =
    swapped_from from 0 (place_of k (length (flight_from from t.link))) t
passed_by from _ t = t

-- the trunks after a verdict that hands no packet over, on the link that it is met on
abbrev pub passes_by : LinkNo → Side → Verdict → List TrunkState → List TrunkState
passes_by l from verdict ts = at_link l (passed_by from verdict) ts

-- THE PACKET AT PLACE 0 HAS COME to a side: for the reading of it, the node was told, the step is
-- in the journal, and the trunk was told in answer
pub record IsDelivered (log new : Log) (trunks after : TrunksState) (k next : NodeState) (by : By)
    (head : Head) (at : At) (keep : Bool) : Type 0 where
  pub heard : Heard
  pub reading :
      IsReading (handed_by (other_of at.side) 0 (trunks_of trunks.is at.link.0).link) heard
  pub logged :
      new ≡ record log {
        steps = record {
          by = by;
          head = head;
          effects = told_on k at
              (told_by (other_of at.side) 0 heard (trunks_of trunks.is at.link.0));
        } ∷ log.steps;
      }
  pub node_is :
      next ≡ node_told k at
      (told_by (other_of at.side) 0 heard (trunks_of trunks.is at.link.0))
      (length log.steps + 1)
  pub trunks_are :
      after ≡ resting trunks.links
      (answers_told k at (told_by (other_of at.side) 0 heard (trunks_of trunks.is at.link.0))
      (at_link at.link (delivered (other_of at.side) 0 keep heard) trunks.is))
