-- What a trunk promises of what it records of its two sides, with no packet, no piece and no
-- address.
use Rattle.std.specs.Prelude.{◌≡◌, ◌≢◌, ◌≤◌, ℕ, true, false, not, ◌&&◌, List, [], ◌∷◌, ◌++◌, map}
use Rattle.std.specs.Prelude.{Some, None}
use Rattle.std.specs.List.{AllByRecursion, list_any}
use Rattle.std.specs.Option.{ForSome}
use Rattle.linx_base.specs.declared.identity.Inc.{Inc}
use Rattle.linx_base.specs.declared.identity.Session.{Session}
use Rattle.trunk_record.specs.Records.{SessionRecord, SideRecord, all, given_in, has_session}
use Rattle.trunk_record.specs.Records.{peer_in, said_in}
use Rattle.trunk_record.specs.Sayings.{Given, Said, has_gone, has_met, heard_as, is_live, met}
use Rattle.trunk_record.specs.Sayings.{published, signals_between, unpublished, was_published}
use Rattle.trunk_record.specs.Sayings.{was_unpublished}
use Rattle.trunk_record.specs.Trunks.{AllFall}
use Rattle.trunk.specs.Events.{TrunkState}

-- ---- two sessions

-- session x of side A and session y of side B have each other as their peer
pub record ArePaired (A B : SideRecord) (x y : Session) : Type 0 where
  pub pair : peer_in A x ≡ Some y
  pub back : peer_in B y ≡ Some x

-- sessions x and y are each other's peer, and what x was given is the meaning of a front of what y
-- said
pub record HearsFront (A B : SideRecord) (x y : Session) : Type 0 where
  pub paired : ArePaired A B x y
  pub later : List Said
  pub said : said_in B y ≡ later ++ map heard_as (given_in A x)

-- ---- what is promised of session x of side A, beside side B

-- what is promised of what a side was given in a session
pub record GivenPromises (A B : SideRecord) (x : Session) : Type 0 where
  -- it is the meaning of a front of what the session that is its peer said
  pub heard : given_in A x ≢ [] → (y : Session) × HearsFront A B x y
  -- it is nothing where the two aren't bound both ways
  pub down : peer_in A x ≡ None → given_in A x ≡ []
  pub unbound : (y : Session) → peer_in A x ≡ Some y → peer_in B y ≢ Some x → given_in A x ≡ []
  -- a peer is met once
  pub once :
      (later before : List Given) (i : Inc) (name : List ℕ)
      → given_in A x ≡ later ++ met i name ∷ before
      → (has_met i later ≡ false) × (has_met i before ≡ false)
  -- a peer lives that was met and hasn't gone
  pub living :
      (i : Inc) → is_live i (map heard_as (given_in A x))
      ≡ (has_met i (given_in A x) && not (has_gone i (given_in A x)))
  -- whoever was met was published by the session that is the peer
  pub published :
      (i : Inc) → has_met i (given_in A x) ≡ true
      → (y : Session) × ArePaired A B x y × (was_published i (said_in B y) ≡ true)
  -- a peer goes after every signal of it: those that were given then are all
  pub parted :
      (i b : Inc) (y : Session) → peer_in A x ≡ Some y → has_gone i (given_in A x) ≡ true
      → signals_between i b (said_in B y)
      ≡ signals_between i b (map heard_as (given_in A x))

-- an incarnation was published before and not unpublished, and nothing is said of it later
pub record EndsLast (later before : List Said) (i : Inc) : Type 0 where
  pub was_live : is_live i before ≡ true
  pub not_published : was_published i later ≡ false
  pub not_unpublished : was_unpublished i later ≡ false
  pub no_signal : (b : Inc) → signals_between i b later ≡ []

-- what is promised of what a side said in a session
pub record SaidPromises (A : SideRecord) (x : Session) : Type 0 where
  -- an incarnation is published once
  pub publishes :
      (later before : List Said) (i : Inc) (name : List ℕ)
      → said_in A x ≡ later ++ published i name ∷ before
      → (was_published i later ≡ false) × (was_published i before ≡ false)
  -- its unpublishing is its last word: it was published before and is not again, it isn't
  -- unpublished again, and signals nothing more
  pub unpublishes :
      (later before : List Said) (i : Inc) → said_in A x ≡ later ++ unpublished i ∷ before
      → EndsLast later before i

-- ---- what is promised of a side

-- the peers of these sessions are no later than session y
abbrev pub PeersUpTo : Session → List SessionRecord → Type 0
PeersUpTo y es = AllByRecursion (λ e. ForSome e.peer (λ z. z.0 ≤ y.0)) es

-- from the oldest to the newest of these sessions, the peers don't go back
abbrev pub PeersRise : List SessionRecord → Type 0
PeersRise [] = Unit {0}
PeersRise (e ∷ es) = ForSome e.peer (λ y. PeersUpTo y es) × PeersRise es

-- the peer of a session is a session of the other side
abbrev pub IsPeerHeld : SideRecord → SessionRecord → Type 0
IsPeerHeld B e = ForSome e.peer (λ y. list_any (has_session y) (all B) ≡ true)

-- what is promised of each session of a side, against those of the other side
pub record SidePromises (A B : SideRecord) : Type 0 where
  pub given : (x : Session) → GivenPromises A B x
  pub said : (x : Session) → SaidPromises A x
  -- nothing is given in two sessions that name the same peer
  pub not_twice :
      (x w y : Session) → peer_in A x ≡ Some y → peer_in A w ≡ Some y → given_in A x ≢ []
      → given_in A w ≢ [] → x ≡ w
  -- the number of a later session is greater
  pub sessions_rise : AllFall (all A)
  pub peers_held : AllByRecursion (IsPeerHeld B) (all A)
  pub peers_rise : PeersRise (all A)

-- ---- what is promised of a trunk

-- what is promised of both sides of a trunk
pub record TrunkPromises (t : TrunkState) : Type 0 where
  pub first : SidePromises t.first.kept t.second.kept
  pub second : SidePromises t.second.kept t.first.kept
