-- What a run with links promises beyond the laws of its steps.
use Rattle.std.specs.Prelude.{ℕ, ◌≡◌, ◌≤◌, Bool, true, false, ◌&&◌, ◌==◌, List, [], ◌∷◌, Option}
use Rattle.std.specs.Prelude.{Some, None, if◌then◌else◌}
use Rattle.std.specs.List.{list_any, AllByRecursion}
use Rattle.linx_base.specs.Numbers.{is_on, node_of}
use Rattle.linx_base.specs.Peers.{same_peer}
use Rattle.linx_base.specs.Sides.{other_of}
use Rattle.linx_base.specs.declared.identity.Inc.{Inc}
use Rattle.linx_base.specs.declared.identity.LinkNo.{LinkNo}
use Rattle.linx_base.specs.declared.identity.Peer.{Peer}
use Rattle.linx_base.specs.declared.identity.Peer.TheVariants.{Here, There}
use Rattle.linx_base.specs.declared.identity.Session.{Session}
use Rattle.linx_base.specs.declared.identity.Side.{Side}
use Rattle.trunk_record.specs.Records.{SessionRecord, SideRecord, all}
use Rattle.trunk_record.specs.Sayings.{Said, asked, published, signaled, unpublished}
use Rattle.journal.specs.History.{effects_of, is_closed}
use Rattle.journal.specs.Living.{is_alive}
use Rattle.journal.specs.Shapes.{Shape}
use Rattle.journal.specs.Traffic.{arrived_from, sent_to}
use Rattle.journal.specs.declared.effect.Effect.{Effect}
use Rattle.journal.specs.declared.effect.Effect.TheVariants.{Arrived, Gone, Met, Up}
use Rattle.journal.specs.declared.effect.Step.{Step}
use Rattle.journal.specs.declared.head.Head.{Head}
use Rattle.journal.specs.declared.head.Head.TheVariants.{Wire}
use Rattle.linx_base.specs.Fronts.{IsFront}
use Rattle.link_laws.specs.Ends.{IsLinkOf, node_at}
use Rattle.link_laws.specs.Sessions.{paired_session}

-- WHAT ARRIVED over a link from incarnation a, in session x, at endpoint b is the front of what
-- that one sent it in the session that x is paired with; without a pair nothing arrived
abbrev pub GotFront : List Step → LinkNo → Session → (a b : Inc) → Option Session → Type 0
GotFront P l x a b None = arrived_from P b (There l x a) ≡ []
GotFront P l x a b (Some y) =
    IsFront (arrived_from P b (There l x a)) (sent_to P a (There l y b))

-- all that incarnation a sent to endpoint b, in the session that x is paired with, arrived there
abbrev pub GotAll : List Step → LinkNo → Session → (a b : Inc) → Option Session → Type 0
GotAll P l x a b None = ⊥
GotAll P l x a b (Some y) = arrived_from P b (There l x a) ≡ sent_to P a (There l y b)

-- WHAT ARRIVED at an endpoint from any peer is the front of what that one sent it: on the node all
-- of it, over a link what it sent in the session that the peer's is paired with
abbrev pub GotFrontOf : List Step → Inc → Peer → Type 0
GotFrontOf P j (Here i) = arrived_from P j (Here i) ≡ sent_to P i (Here j)
GotFrontOf P j (There l x i) = GotFront P l x i j (paired_session P (node_of j) l.0 x)

-- what arrived at any endpoint from any peer is the front of what that one sent it
abbrev pub AllGotFronts : List Step → Type 0
AllGotFronts P = (j : Inc) (q : Peer) → GotFrontOf P j q

-- the effect is that the node parts from this peer
abbrev pub parts_peer : ℕ → Peer → Effect → Bool
parts_peer node q (Gone n p) = n.0 == node && same_peer q p
parts_peer node q _ = false

-- one of the effects so far is that the node parted from this peer
abbrev pub has_parted : List Step → ℕ → Peer → Bool
has_parted P node q = list_any (parts_peer node q) (effects_of P)

-- OF A SIDE OF A LINK, at node n with m across: what an endpoint got from an incarnation of the
-- other node is the front of what that one sent it; and once its close was told, each open endpoint
-- has got all of it, and that peer is dead, so that nothing comes after it
pub record IsCarried (P : List Step) (n m : ℕ) (l : LinkNo) : Type 0 where
  pub fronts : (x : Session) (a b : Inc) → is_on m a ≡ true → is_on n b ≡ true
      → GotFront P l x a b (paired_session P n l.0 x)
  pub complete : (x : Session) (a b : Inc) → has_parted P n (There l x a) ≡ true
      → is_alive P n (Here b) ≡ true → GotAll P l x a b (paired_session P n l.0 x)
  pub over : (x : Session) (a : Inc) → has_parted P n (There l x a) ≡ true
      → is_alive P n (There l x a) ≡ false

-- what is promised of signals over a link holds of each side of each link
abbrev pub AllCarried : Shape → List Step → Type 0
AllCarried shape P = (l : LinkNo) → IsLinkOf shape l → (side : Side)
    → IsCarried P (node_at shape l side) (node_at shape l (other_of side)) l

-- PAIRED BOTH WAYS. Session x of node n names session y of node m, and is named by it
pub record IsPairedBack (P : List Step) (n m : ℕ) (l : LinkNo) (x y : Session) : Type 0 where
  pub pair : paired_session P n l.0 x ≡ Some y
  pub back : paired_session P m l.0 y ≡ Some x

-- a session of node n has a pair, which is paired with it too
abbrev pub HasPair : List Step → (n m : ℕ) → LinkNo → Session → Type 0
HasPair P n m l x = (y : Session) × IsPairedBack P n m l x y

-- THE PEER'S SESSIONS DON'T GO BACK: no earlier Up of the side names a greater one
abbrev pub IsNotAbove : Session → Option Session → Type 0
IsNotAbove y None = Unit {0}
IsNotAbove y (Some z) = z.0 ≤ y.0

-- session y is no lower than any that the side was paired with
abbrev pub GoesForward : List Step → ℕ → LinkNo → Session → Type 0
GoesForward P n l y = (x : Session) → IsNotAbove y (paired_session P n l.0 x)

-- WHOEVER IS MET was not closed before the paired session went up. The effect is the Up of this
-- session
abbrev pub ups : ℕ → ℕ → Session → Effect → Bool
ups node link x (Up n l z y) = n.0 == node && l.0 == link && z.0 == x.0
ups node link x _ = false

-- the history before a session went up; none of it where it never did
abbrev pub before_up : List Step → ℕ → ℕ → Session → List Step
before_up [] node link x = []
before_up (s ∷ P) node link x =
    if list_any (ups node link x) s.effects then P else before_up P node link x

-- an incarnation was closed before session y of node m went up
abbrev pub was_closed_before : List Step → ℕ → LinkNo → Session → Inc → Bool
was_closed_before P m l y a = is_closed (before_up P m l.0 y) a

-- a peer is met in a session that has a pair, and was not closed before the pair went up
pub record IsMetOpen (P : List Step) (n m : ℕ) (l : LinkNo) (x : Session) (a : Inc) : Type 0
  where
    pub y : Session
    pub paired : IsPairedBack P n m l x y
    pub open_then : was_closed_before P m l y a ≡ false

-- what is promised of an effect of a packet from node m to node n
abbrev pub IsPromised : List Step → (n m : ℕ) → LinkNo → Effect → Type 0
IsPromised P n m l (Up k h x y) = GoesForward P n l y
IsPromised P n m l (Arrived b (There h x a) note) = HasPair P n m l x
IsPromised P n m l (Met k (There h x a) name) = IsMetOpen P n m l x a
IsPromised P n m l (Gone k (There h x a)) = HasPair P n m l x
IsPromised P n m l _ = Unit {0}

-- what is promised of a step: of each effect of a packet
abbrev pub PromisesOf : Shape → List Step → Head → List Effect → Type 0
PromisesOf shape P (Wire l from verdict) es =
    AllByRecursion
    (IsPromised P (node_at shape l (other_of from)) (node_at shape l from) l) es
PromisesOf shape P _ es = Unit {0}

-- each step of a journal keeps what is promised of packets
abbrev pub KeepsLinkPromises : Shape → List Step → Type 0
KeepsLinkPromises shape [] = Unit {0}
KeepsLinkPromises shape (s ∷ P) =
    KeepsLinkPromises shape P × PromisesOf shape P s.head s.effects

-- what was published in a session was open when it went up, or was opened later
abbrev pub IsPublishedOpen : List Step → ℕ → LinkNo → Session → Said → Type 0
IsPublishedOpen P m l y (published i name) = was_closed_before P m l y i ≡ false
IsPublishedOpen P m l y (asked name) = Unit {0}
IsPublishedOpen P m l y (signaled a b note) = Unit {0}
IsPublishedOpen P m l y (unpublished i) = Unit {0}

-- all that was published in a session was open when it went up, or was opened later
abbrev pub PublishesOpen : List Step → ℕ → LinkNo → SessionRecord → Type 0
PublishesOpen P m l e = AllByRecursion (IsPublishedOpen P m l e.session) e.said

-- all that a side published, in any of its sessions, was open when that went up, or was opened
-- later
abbrev pub ArePublishedOpen : List Step → ℕ → LinkNo → SideRecord → Type 0
ArePublishedOpen P m l B = AllByRecursion (PublishesOpen P m l) (all B)
