-- What a packet brings to a node over a link, and when it may.
use Rattle.std.specs.Prelude.{ℕ, ◌==◌, ◌≡◌, ◌<◌, Bool, true, false, ◌&&◌, List, [], ◌∷◌, ◌++◌, Some}
use Rattle.std.specs.Prelude.{None, IsSomeAnd}
use Rattle.std.specs.List.{list_any, AllByRecursion}
use Rattle.linx_base.specs.Fronts.{IsFront}
use Rattle.linx_base.specs.Numbers.{is_on}
use Rattle.linx_base.specs.Peers.{same_inc, same_peer}
use Rattle.linx_base.specs.declared.identity.Inc.{Inc}
use Rattle.linx_base.specs.declared.identity.LinkNo.{LinkNo}
use Rattle.linx_base.specs.declared.identity.Peer.{Peer}
use Rattle.linx_base.specs.declared.identity.Peer.TheVariants.{Here, There}
use Rattle.linx_base.specs.declared.identity.Session.{Session}
use Rattle.linx_base.specs.SigNotes.{SigNote}
use Rattle.journal.specs.Effects.{losing, meeting, parting}
use Rattle.journal.specs.History.{effects_of, is_closed, name_of, open_endpoints, openings}
use Rattle.journal.specs.Living.{is_alive}
use Rattle.journal.specs.Pending.{hunting, owed}
use Rattle.journal.specs.Sessions.{up_session}
use Rattle.journal.specs.Traffic.{arrived_from, sent_to}
use Rattle.journal.specs.declared.effect.Effect.{Effect}
use Rattle.journal.specs.declared.effect.Effect.TheVariants.{Arrived, Met, Up}
use Rattle.journal.specs.declared.effect.Step.{Step}
use Rattle.link_laws.specs.Sessions.{had_session, own_session, paired_session}

-- WHAT A PACKET BRINGS is one of these, in the node's session: nothing; it goes up, with a session
-- of the other side, or down; a signal from one incarnation to another; a peer that is met, by its
-- name; a peer that is parted from
pub data Brought : Type 0 where
  nothing : Brought
  goes_up : Session → Session → Brought
  goes_down : Session → Brought
  arrives : Session → Inc → Inc → SigNote → Brought
  meets : Session → Inc → List ℕ → Brought
  parts : Session → Inc → Brought

-- the effects at node n of what a packet brings, in order
abbrev pub brought_at : List Step → ℕ → LinkNo → Brought → List Effect
brought_at P n l nothing = []
brought_at P n l (goes_up x y) = Up (record { 0 = n }) l x y ∷ []
brought_at P n l (goes_down x) = losing (record { 0 = n }) l x (owed P n)
brought_at P n l (arrives x a b note) = Arrived b (There l x a) note ∷ []
brought_at P n l (meets x a name) =
    meeting (record { 0 = n }) l (There l x a) name (hunting P n)
brought_at P n l (parts x a) = parting (record { 0 = n }) (There l x a) (owed P n)

-- the incarnation was opened on the node, closed or not
abbrev pub was_opened : List Step → ℕ → Inc → Bool
was_opened P node i = is_on node i && list_any (same_inc i) (openings P)

-- the effect is that the node meets this peer
abbrev pub meets_peer : ℕ → Peer → Effect → Bool
meets_peer node q (Met n p name) = n.0 == node && same_peer q p
meets_peer node q _ = false

-- the node has met this peer, alive or not
abbrev pub was_met : List Step → ℕ → Peer → Bool
was_met P node q = list_any (meets_peer node q) (effects_of P)

-- LAW OF ARRIVALS OVER A LINK. A signal arrives at an open endpoint from a living peer, which is an
-- incarnation of the other node m; all that arrived there is then the front of what that one sent
pub record IsArrival (P : List Step) (n m : ℕ) (l : LinkNo) (x : Session) (a b : Inc)
    (note : SigNote) : Type 0 where
  pub receiver : is_alive P n (Here b) ≡ true
  pub sender : was_opened P m a ≡ true
  pub alive : is_alive P n (There l x a) ≡ true
  pub front : IsSomeAnd (paired_session P n l.0 x)
      (λ y. IsFront (arrived_from P b (There l x a) ++ note ∷ []) (sent_to P a (There l y b)))

-- LAW OF MEETINGS. In the session that is up a node meets a peer once, by the name that it was
-- opened with on the other node
pub record IsMeeting (P : List Step) (n m : ℕ) (l : LinkNo) (x : Session) (a : Inc)
    (name : List ℕ) : Type 0 where
  pub up : up_session P n l.0 ≡ Some x
  pub opened : was_opened P m a ≡ true
  pub named : name_of P a ≡ name
  pub new : was_met P n (There l x a) ≡ false

-- LAW OF PARTINGS. A peer that goes was alive and is closed, and each open endpoint has got all
-- that it sent
pub record IsParting (P : List Step) (n m : ℕ) (l : LinkNo) (x : Session) (a : Inc) : Type 0 where
  pub alive : is_alive P n (There l x a) ≡ true
  pub closed : is_closed P a ≡ true
  pub all_got : IsSomeAnd (paired_session P n l.0 x)
      (λ y. AllByRecursion (λ b. arrived_from P b (There l x a) ≡ sent_to P a (There l y b))
      (open_endpoints P n))

-- LAW OF SESSIONS. A side that is down goes up in its own session, with one that the other side has
-- or had
pub record IsGoingUp (P : List Step) (n m : ℕ) (l : LinkNo) (x y : Session) : Type 0 where
  pub down : up_session P n l.0 ≡ None
  pub own : x ≡ own_session P n l.0
  pub other_had : had_session P m l.0 y ≡ true

-- a side goes down by a packet where the other side has a greater session than its pair
pub record IsGoingDown (P : List Step) (n m : ℕ) (l : LinkNo) (x : Session) : Type 0 where
  pub up : up_session P n l.0 ≡ Some x
  pub passed : IsSomeAnd (paired_session P n l.0 x) (λ y. y.0 < (own_session P m l.0).0)

-- what a packet brings to node n from node m may come: the law of what it is holds
abbrev pub MayBring : List Step → (n m : ℕ) → LinkNo → Brought → Type 0
MayBring P n m l nothing = Unit {0}
MayBring P n m l (goes_up x y) = IsGoingUp P n m l x y
MayBring P n m l (goes_down x) = IsGoingDown P n m l x
MayBring P n m l (arrives x a b note) = IsArrival P n m l x a b note
MayBring P n m l (meets x a name) = IsMeeting P n m l x a name
MayBring P n m l (parts x a) = IsParting P n m l x a
