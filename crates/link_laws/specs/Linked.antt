-- How a history and the record of a trunk hang together.
use Rattle.std.specs.Prelude.{ℕ, ◌≡◌, ◌≢◌, Bool, true, false, ◌&&◌, ◌==◌, List, ◌++◌, map}
use Rattle.std.specs.Prelude.{filter, Option, Some, None}
use Rattle.std.specs.List.{list_any, AllByRecursion}
use Rattle.std.specs.Str.{bytes_eq}
use Rattle.linx_base.specs.Pending.{is_for}
use Rattle.linx_base.specs.declared.name.Path.TheVariants.{Over}
use Rattle.linx_base.specs.declared.identity.Inc.{Inc}
use Rattle.linx_base.specs.declared.identity.LinkNo.{LinkNo}
use Rattle.linx_base.specs.declared.identity.Peer.TheVariants.{Here, There}
use Rattle.linx_base.specs.declared.identity.Session.{Session}
use Rattle.trunk_record.specs.Records.{SessionRecord, SideRecord, all, given_in, peer_in, said_in}
use Rattle.trunk_record.specs.Records.{up_in}
use Rattle.trunk_record.specs.Sayings.{Said, asked, heard_as, is_live, is_shown, is_signal}
use Rattle.trunk_record.specs.Sayings.{published, signaled, unpublished}
use Rattle.journal.specs.History.{is_closed, name_of}
use Rattle.journal.specs.Living.{is_alive}
use Rattle.journal.specs.Pending.{hunting}
use Rattle.journal.specs.Sessions.{up_session}
use Rattle.journal.specs.declared.effect.Step.{Step}
use Rattle.link_laws.specs.Brought.{was_opened}
use Rattle.link_laws.specs.Came.{came_in, sent_in}
use Rattle.link_laws.specs.Sessions.{had_session, own_session, paired_session}

-- an incarnation of the node was closed, and isn't open again
pub record IsClosedOn (P : List Step) (node : ℕ) (i : Inc) : Type 0 where
  pub opened : was_opened P node i ≡ true
  pub closed : is_closed P i ≡ true
  pub dead : is_alive P node (Here i) ≡ false

-- what a side says of names and ends is true of its node
abbrev pub IsTrueOf : List Step → ℕ → Said → Type 0
IsTrueOf P node (published i name) = (was_opened P node i ≡ true) × (name_of P i ≡ name)
IsTrueOf P node (asked name) = Unit {0}
IsTrueOf P node (signaled a b note) = Unit {0}
IsTrueOf P node (unpublished i) = IsClosedOn P node i

-- all that a side said in a session is true of its node
abbrev pub SaysTruly : List Step → ℕ → SessionRecord → Type 0
SaysTruly P node e = AllByRecursion (IsTrueOf P node) e.said

-- a session is this one, if it is there
abbrev pub is_session : Session → Option Session → Bool
is_session x None = false
is_session x (Some y) = x.0 == y.0

-- the node had the session of an entry
abbrev pub HadSessionOf : List Step → ℕ → LinkNo → SessionRecord → Type 0
HadSessionOf P node l e = had_session P node l.0 e.session ≡ true

-- A NODE'S SIDE OF A LINK, as the history tells it, is the side of the trunk
pub record IsLinked (P : List Step) (node : ℕ) (l : LinkNo) (A : SideRecord) : Type 0 where
  pub own : own_session P node l.0 ≡ A.now.session
  pub up : up_session P node l.0 ≡ up_in A
  pub pairs : (x : Session) → paired_session P node l.0 x ≡ peer_in A x
  pub had : AllByRecursion (HadSessionOf P node l) (all A)
  pub sent : (x : Session) → sent_in P node l.0 x ≡ filter is_signal (said_in A x)
  pub came : (x : Session) → came_in P node l.0 x ≡ filter is_shown (given_in A x)
  pub truly : AllByRecursion (SaysTruly P node) (all A)
  pub live : (i : Inc) → is_live i A.now.said ≡ true → is_alive P node (Here i) ≡ true
  pub living : (x : Session) (a : Inc) → is_alive P node (There l x a)
      ≡ (is_session x (up_in A) && is_live a (map heard_as (given_in A x)))

-- WHAT IS ON ITS WAY. Both sides are up with each other; of what each said, the other has yet to
-- hear the newest part
pub record IsTalking (A B : SideRecord) : Type 0 where
  pub pair : A.now.peer ≡ Some B.now.session
  pub back : B.now.peer ≡ Some A.now.session
  pub to_far : List Said
  pub to_near : List Said
  pub said : A.now.said ≡ to_far ++ map heard_as B.now.given
  pub answered : B.now.said ≡ to_near ++ map heard_as A.now.given

-- what is said asks for this name
abbrev pub asks : List ℕ → Said → Bool
asks v (asked w) = bytes_eq v w
asks v _ = false

-- what is said publishes an endpoint of this name
abbrev pub offers : List ℕ → Said → Bool
offers v (published i w) = bytes_eq v w
offers v _ = false

-- a node has no open endpoint of this name
abbrev pub HasNone : List Step → ℕ → List ℕ → Type 0
HasNone P node v =
    (i : Inc) → is_alive P node (Here i) ≡ true → bytes_eq v (name_of P i) ≡ false

-- WHERE A PENDING HUNT STANDS: its question is on its way, or node m has noted the name and has no
-- endpoint of it, or a publishing of the name is on its way back
pub data HuntStands (P : List Step) (m : ℕ) (noted : List (List ℕ)) (v : List ℕ)
    (to_far to_near : List Said) : Type 0 where
  asking : list_any (asks v) to_far ≡ true → HuntStands P m noted v to_far to_near
  waiting : list_any (bytes_eq v) noted ≡ true → HasNone P m v
      → HuntStands P m noted v to_far to_near
  coming : list_any (offers v) to_near ≡ true → HuntStands P m noted v to_far to_near

-- a hunt of node n over the link is pending for the name
abbrev pub is_hunted : List Step → ℕ → LinkNo → List ℕ → Bool
is_hunted P n l v = list_any (is_for (Over l v)) (hunting P n)

-- a node's hunts over a link, seen with the sides of the trunk and the names that the other side
-- has noted
pub record AreHunted (P : List Step) (n m : ℕ) (l : LinkNo) (A B : SideRecord)
    (noted : List (List ℕ)) : Type 0 where
  pub asked_all : (v : List ℕ) → A.now.peer ≢ None → is_hunted P n l v ≡ true
      → list_any (asks v) A.now.said ≡ true
  pub stand : (talk : IsTalking A B) (v : List ℕ) → is_hunted P n l v ≡ true
      → HuntStands P m noted v talk.to_far talk.to_near

-- a name for which a hunt of node n is pending is that of no living peer: else it had been found
abbrev pub IsUnfound : List Step → ℕ → LinkNo → List ℕ → Type 0
IsUnfound P n l v = (x : Session) (a : Inc) → is_alive P n (There l x a) ≡ true
    → bytes_eq v (name_of P a) ≡ false
