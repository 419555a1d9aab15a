-- A link that is still: nothing more comes over it unless somebody acts; and when all is over.
use Rattle.std.specs.Prelude.{ℕ, ◌≡◌, ◌≤◌, ◌<◌, Bool, true, false, not, ◌||◌, ◌==◌, List}
use Rattle.std.specs.Prelude.{length, Some, None}
use Rattle.std.specs.List.{list_any, AllByRecursion}
use Rattle.linx_base.specs.Pending.{is_for}
use Rattle.linx_base.specs.declared.identity.LinkNo.{LinkNo}
use Rattle.linx_base.specs.declared.identity.Peer.{Peer}
use Rattle.linx_base.specs.declared.identity.Peer.TheVariants.{Here, There}
use Rattle.linx_base.specs.declared.identity.Session.{Session}
use Rattle.linx_base.specs.declared.identity.Side.TheVariants.{First, Second}
use Rattle.linx_base.specs.declared.name.Path.TheVariants.{Over}
use Rattle.journal.specs.History.{has_ended, name_of, open_endpoints}
use Rattle.journal.specs.Living.{is_alive, living}
use Rattle.journal.specs.Pending.{hunting}
use Rattle.journal.specs.Sessions.{up_session}
use Rattle.journal.specs.Shapes.{Shape}
use Rattle.journal.specs.Traffic.{arrived_from, sent_to}
use Rattle.journal.specs.declared.effect.Step.{Step}
use Rattle.link_laws.specs.Ends.{IsLinkOf, node_at}
use Rattle.link_laws.specs.Sessions.{is_cut, paired_session}

-- all that the open endpoints of node m sent in session y is what those of node n got in session x
abbrev pub AllGot : List Step → (n m : ℕ) → LinkNo → Session → Session → Type 0
AllGot P n m l x y =
    AllByRecursion (λ a. AllByRecursion
    (λ b. arrived_from P b (There l x a) ≡ sent_to P a (There l y b)) (open_endpoints P n))
    (open_endpoints P m)

-- a peer over the link is open on the node that it is of
abbrev pub is_open_there : List Step → ℕ → LinkNo → Peer → Bool
is_open_there P m l (Here i) = true
is_open_there P m l (There k x i) = not (k.0 == l.0) || is_alive P m (Here i)

-- the living peers of node n over the link are open on node m
abbrev pub PeersOpen : List Step → (n m : ℕ) → LinkNo → Type 0
PeersOpen P n m l = AllByRecursion (λ p. is_open_there P m l p.peer ≡ true) (living P n)

-- no hunt of node n over the link is pending for a name that is open on node m
abbrev pub HuntsAnswered : List Step → (n m : ℕ) → LinkNo → Type 0
HuntsAnswered P n m l =
    AllByRecursion (λ i. list_any (is_for (Over l (name_of P i))) (hunting P n) ≡ false)
    (open_endpoints P m)

-- one direction of a link that is still: session x of node n is up, with session y of node m
pub record IsStillHalf (P : List Step) (n m : ℕ) (l : LinkNo) (x y : Session) : Type 0 where
  pub up : up_session P n l.0 ≡ Some x
  pub pair : paired_session P n l.0 x ≡ Some y
  pub all_got : AllGot P n m l x y
  pub peers_open : PeersOpen P n m l
  pub hunts_answered : HuntsAnswered P n m l

-- both directions of a link are still
pub record IsStillWhole (P : List Step) (n m : ℕ) (l : LinkNo) (x y : Session) : Type 0 where
  pub there : IsStillHalf P n m l x y
  pub back : IsStillHalf P m n l y x

-- A link is still: it is cut and up at neither end, or it is whole, up at both ends with each
-- other, and all is said and heard
pub data IsStill (shape : Shape) (P : List Step) (l : LinkNo) : Type 0 where
  cut : is_cut P l.0 ≡ true → up_session P (node_at shape l First) l.0 ≡ None
      → up_session P (node_at shape l Second) l.0 ≡ None → IsStill shape P l
  whole : is_cut P l.0 ≡ false → (x y : Session)
      → IsStillWhole P (node_at shape l First) (node_at shape l Second) l x y → IsStill shape P l

-- every link of the shape is still
abbrev pub AllStill : Shape → List Step → Type 0
AllStill shape P = (l : LinkNo) → IsLinkOf shape l → IsStill shape P l

-- ALL IS OVER: every actor of the shape has ended, and every link is still
pub record IsOver (shape : Shape) (P : List Step) : Type 0 where
  pub ended : (k : ℕ) → 0 < k → k ≤ length shape.actors → has_ended P k ≡ true
  pub still : AllStill shape P
