-- What the trunks of a run's links are told of an actor's call at its open endpoint.
use Rattle.std.specs.Prelude.{ℕ, ◌≡◌, Bool, true, List, map, Option, Some, None, IsSome}
use Rattle.linx_base.specs.declared.frame.LinkDecl.{LinkDecl}
use Rattle.linx_base.specs.declared.identity.Inc.{Inc}
use Rattle.linx_base.specs.declared.identity.LinkNo.{LinkNo}
use Rattle.linx_base.specs.declared.identity.Peer.{Peer}
use Rattle.linx_base.specs.declared.identity.Peer.TheVariants.{There}
use Rattle.linx_base.specs.declared.identity.Side.{Side}
use Rattle.linx_base.specs.declared.name.Path.{Path}
use Rattle.linx_base.specs.declared.name.Path.TheVariants.{Over}
use Rattle.linx_base.specs.SigNotes.{SigNote}
use Rattle.journal.specs.History.{name_or_none}
use Rattle.link_laws.specs.Ends.{IsLinkOf}
use Rattle.node_kernel.specs.Nodes.{NodeState, find_at, is_living, name_at}
use Rattle.run_trunks.specs.Changes.{AllGrant, at_link, each_does}
use Rattle.run_trunks.specs.States.{HasLink, OnlyChangedAt, TrunksState, over, trunks_of}
use Rattle.trunk.specs.Events.{HasNumbersLeft, TrunkState, asked_at, closed_at, sent_at, side_of}
use Rattle.trunk.specs.Laws.{MayPublish}
use Rattle.trunk_record.specs.Sayings.{heard_as, is_live}
use Rattle.trunk_moves.specs.Trunks.{does, side_on}
use Rattle.fabric.specs.declared.call.Call.{Call}
use Rattle.fabric.specs.declared.call.Call.TheVariants.{Attach, Close, Detach, End, Hunt, Send}
use Rattle.fabric.specs.declared.telling.Hearing.{Hearing}
use Rattle.fabric.specs.declared.telling.Hearing.TheVariants.{Nobody, One, Several}

-- a signal from endpoint j of a node to a living peer over a link: the node's side there sends it
abbrev pub sent_over : List LinkDecl → NodeState → Inc → Bool → Peer → SigNote → List TrunkState
    → List TrunkState
sent_over links k j true (There l x b) signal ts =
    at_link l (does (side_on (over links) k.node.0 l)
    (λ side. sent_at side j (name_or_none (name_at k.endpoints j)) b signal)) ts
sent_over links k j living q signal ts = ts

-- a hunt over a link that finds nothing: the node's side there asks for the name
abbrev pub asked_over : List LinkDecl → NodeState → Option Peer → Path → List TrunkState
    → List TrunkState
asked_over links k None (Over l v) ts =
    at_link l (does (side_on (over links) k.node.0 l) (λ side. asked_at side v)) ts
asked_over links k found path ts = ts

-- THE TRUNKS AFTER A CALL at endpoint j of a node: each side of the node hears of a close, and one
-- of a signal over its link, or of a hunt
abbrev pub told_of_call : List LinkDecl → NodeState → Inc → Call → List TrunkState
    → List TrunkState
told_of_call links k j Close ts = each_does links k.node.0 (λ side. closed_at side j) ts
told_of_call links k j End ts = each_does links k.node.0 (λ side. closed_at side j) ts
told_of_call links k j (Send q signal) ts = sent_over links k j (is_living k q) q signal ts
told_of_call links k j (Hunt path signal) ts = asked_over links k (find_at k path) path ts
told_of_call links k j (Attach q signal) ts = ts
told_of_call links k j (Detach r) ts = ts

-- no other trunks have changed since the event began than those that hear of a call
abbrev pub IsHeardBy : TrunksState → Hearing → Type 0
IsHeardBy s Nobody = s.was ≡ s.is
IsHeardBy s (One l) = HasLink s l × OnlyChangedAt l s
IsHeardBy s Several = Unit {0}

-- ---- what the trunks must grant for it

-- a link of these has a side on the node
abbrev pub HasSide : List LinkDecl → ℕ → LinkNo → Type 0
HasSide links n l = IsLinkOf (over links) l × IsSome (side_on (over links) n l)

-- a side may send from an endpoint of this name to a peer: that may be published, this was met, and
-- there are numbers left for the frames
pub record MaySendTo (t : TrunkState) (side : Side) (from : Inc) (name : List ℕ) (to : Inc)
    : Type 0 where
  pub sender : MayPublish (side_of side t) from name
  pub receiver : is_live to (map heard_as (side_of side t).kept.now.given) ≡ true
  pub numbers : HasNumbersLeft side t

-- a signal to a living peer over a link may be sent from the node's side there
abbrev pub MayTellSend : TrunksState → NodeState → Inc → Bool → Peer → Type 0
MayTellSend s k j true (There l x b) =
    HasSide s.links k.node.0 l × ((side : Side)
    → side_on (over s.links) k.node.0 l ≡ Some side
    → MaySendTo (trunks_of s.is l.0) side j (name_or_none (name_at k.endpoints j)) b)
MayTellSend s k j living q = Unit {0}

-- a hunt over a link leaves by a side on the node, which has numbers left
abbrev pub MayTellHunt : TrunksState → NodeState → Path → Type 0
MayTellHunt s k (Over l v) =
    HasSide s.links k.node.0 l
    × ((side : Side) → side_on (over s.links) k.node.0 l ≡ Some side
    → HasNumbersLeft side (trunks_of s.is l.0))
MayTellHunt s k _ = Unit {0}

-- a call may be told to the trunks: a send and a hunt as their sides can say them; for a close each
-- side on the node has numbers left
abbrev pub MayTell : TrunksState → NodeState → Inc → Call → Type 0
MayTell s k j (Send q signal) = MayTellSend s k j (is_living k q) q
MayTell s k j (Hunt path signal) = MayTellHunt s k path
MayTell s k j Close = AllGrant s.links k.node.0 s.is HasNumbersLeft
MayTell s k j End = AllGrant s.links k.node.0 s.is HasNumbersLeft
MayTell s k j _ = Unit {0}
