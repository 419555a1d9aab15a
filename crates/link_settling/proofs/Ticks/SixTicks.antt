-- Every link settles in six ticks.
use Rattle.std.proofs.Common.{◌≡◌, ℕ, zero, suc, false, true, Option, Some, None, List, [], ◌∷◌}
use Rattle.std.proofs.Common.{◌++◌, length, refl, sym, subst, arith, IsSome, slice_get}
use Rattle.linx_base.specs.Frames.{IsMessage}
use Rattle.linx_base.specs.Sides.{other_of}
use Rattle.linx_base.specs.declared.frame.Message.{Message}
use Rattle.linx_base.specs.declared.identity.Session.{Session}
use Rattle.linx_base.specs.declared.identity.Side.{Side}
use Rattle.linx_base.specs.declared.identity.Side.TheVariants.{First, Second}
use Rattle.ethcm_headers.specs.declared.packets.Packet.{Packet}
use Rattle.ethcm_end.specs.States.{has_work_in, peer_of}
use Rattle.carrier.specs.Records.{HalfState}
use Rattle.carrier.specs.Events.{LinkState, delivered, half_of, is_quiet, near_took}
use Rattle.carrier.specs.Events.{offered_to, seen_from, ticked_at, turned}
use Rattle.carrier.specs.Keeping.{KeepsLink}
use Rattle.carrier.specs.Laws.{IsComplete}
use Rattle.carrier.proofs.Delivering.{quiet_complete}
use Rattle.carrier.proofs.Links.{events_keep, seen_keeps}
use Rattle.link_settling.specs.Laws.{LinksSettle}
use Rattle.link_settling.specs.Runs.{IsEmpty, MayAllBe, MayBe, Move, SettlesIn, moved, moved_all}
use Rattle.link_settling.specs.Runs.Move.{comes, offers}
use Rattle.link_settling.proofs.Flights.Counting.{no_length}
use Rattle.link_settling.proofs.Ticks.TicksLeft.{Left, left_lasts, left_none, left_ticked}
use Rattle.link_settling.proofs.Flights.Steps.{Holds, beaten, beaten_out}

-- the ticks that are left, where the first side of a link is next, and where this side is
abbrev pub LeftOf : ℕ → LinkState → Type 0
LeftOf n w = Left n w.first w.second w.there w.back

abbrev pub LeftAt : ℕ → Side → LinkState → Type 0
LeftAt n side v = LeftOf n (seen_from side v)

-- ---- a move

-- a packet comes to the first side
comes_near : (n : ℕ) (a b : HalfState) (there back : List Packet) → Holds a b there back
    → Left n a b there back
    → LeftOf n (near_took (record { first = a; second = b; there = there; back = back }) 0 false
    (slice_get back 0))
comes_near n a b there [] k h = h
comes_near n a b there (p ∷ left) k h =
    (left_lasts n).near_came a b there left p k (events_keep.delivered Second 0 false
    (record { first = a; second = b; there = there; back = p ∷ left }) k) h

-- and to the second one
comes_far : (n : ℕ) (a b : HalfState) (there back : List Packet) → Holds a b there back
    → Left n a b there back
    → LeftOf n (turned (near_took
    (record { first = b; second = a; there = back; back = there }) 0 false (slice_get there 0)))
comes_far n a b [] back k h = h
comes_far n a b (p ∷ left) back k h =
    (left_lasts n).far_came a b left back p k (events_keep.delivered First 0 false
    (record { first = a; second = b; there = p ∷ left; back = back }) k) h

pub some_peer : (peer : Option Session) → IsSome peer → (y : Session) × (peer ≡ Some y)
some_peer None some = absurd (grind arith)
some_peer (Some y) some = (y, refl)

module _ (n : ℕ) (v : LinkState) (k : KeepsLink v) where
  left_comes : (side from : Side) → LeftAt n side v → LeftAt n side (delivered from 0 false v)
  left_comes First Second h = comes_near n v.first v.second v.there v.back k h
  left_comes First First h = comes_far n v.first v.second v.there v.back k h
  left_comes Second First h =
      comes_near n v.second v.first v.back v.there (seen_keeps Second v k) h
  left_comes Second Second h =
      comes_far n v.second v.first v.back v.there (seen_keeps Second v k) h

  left_offers : (side to : Side) (m : Message) → IsSome (peer_of (half_of to v).end)
      → IsMessage m → LeftAt n side v → LeftAt n side (offered_to to m v)
  left_offers First First m some is h =
      let up = some_peer (peer_of v.first.end) some in
      (left_lasts n).near_offered v.first v.second v.there v.back m up.0 up.1 k
      (events_keep.offered First m v some is k) h
  left_offers First Second m some is h =
      let up = some_peer (peer_of v.second.end) some in
      (left_lasts n).far_offered v.first v.second v.there v.back m up.0 up.1 k
      (events_keep.offered Second m v some is k) h
  left_offers Second First m some is h =
      let up = some_peer (peer_of v.first.end) some in
      (left_lasts n).far_offered v.second v.first v.back v.there m up.0 up.1
      (seen_keeps Second v k)
      (seen_keeps Second (offered_to First m v) (events_keep.offered First m v some is k)) h
  left_offers Second Second m some is h =
      let up = some_peer (peer_of v.second.end) some in
      (left_lasts n).near_offered v.second v.first v.back v.there m up.0 up.1
      (seen_keeps Second v k)
      (seen_keeps Second (offered_to Second m v) (events_keep.offered Second m v some is k)) h

  left_moved : (side : Side) (m : Move) → MayBe v m → LeftAt n side v
      → LeftAt n side (moved v m)
  left_moved side (comes from) may h = left_comes side from h
  left_moved side (offers to m) may h = left_offers side to m may.0 may.1 h

pub keeps_moved : (v : LinkState) → KeepsLink v → (m : Move) → MayBe v m → KeepsLink (moved v m)
keeps_moved v k (comes from) may = events_keep.delivered from 0 false v k
keeps_moved v k (offers to m) may = events_keep.offered to m v may.0 may.1 k

pub keeps_all : (v : LinkState) → KeepsLink v → (moves : List Move) → MayAllBe v moves
    → KeepsLink (moved_all v moves)
keeps_all v k [] may = k
keeps_all v k (m ∷ moves) may =
    keeps_all (moved v m) (keeps_moved v k m may.0) moves may.1

pub left_all : (n : ℕ) (side : Side) (v : LinkState) → KeepsLink v → (moves : List Move)
    → MayAllBe v moves → LeftAt n side v → LeftAt n side (moved_all v moves)
left_all n side v k [] may h = h
left_all n side v k (m ∷ moves) may h =
    left_all n side (moved v m) (keeps_moved v k m may.0) moves may.1
    (left_moved n v k side m may.0 h)

-- ---- nothing is in flight

pub holds_empty : (a b : HalfState) (there back : List Packet) → there ≡ [] → back ≡ []
    → Holds a b there back → Holds a b [] []
holds_empty a b there back e q k =
    subst (λ l. Holds a b [] l) q (subst (λ l. Holds a b l back) e k)

pub left_empty : (n : ℕ) (a b : HalfState) (there back : List Packet) → there ≡ [] → back ≡ []
    → Left n a b there back → Left n a b [] []
left_empty n a b there back e q h =
    subst (λ l. Left n a b [] l) q (subst (λ l. Left n a b l back) e h)

-- the side that is next ticks
pub left_tick : (n : ℕ) (a b : HalfState) (there back : List Packet) → there ≡ [] → back ≡ []
    → Holds a b there back → Left (suc n) a b there back
    → Left n b (beaten a) back (there ++ beaten_out a)
left_tick n a b there back e q k h =
    let now = left_ticked n a b (holds_empty a b there back e q k)
    (left_empty (suc n) a b there back e q h) in
    subst (λ l. Left n b (beaten a) l (there ++ beaten_out a)) (sym q)
    (subst (λ l. Left n b (beaten a) [] (l ++ beaten_out a)) (sym e) now)

pub left_ticks : (n : ℕ) (side : Side) (v : LinkState) → IsEmpty v → KeepsLink v
    → LeftAt (suc n) side v → LeftAt n (other_of side) (ticked_at side v)
left_ticks n First v empty k h =
    left_tick n v.first v.second v.there v.back empty.0 empty.1 k h
left_ticks n Second v empty k h =
    left_tick n v.second v.first v.back v.there empty.1 empty.0 (seen_keeps Second v k) h

-- by the numbers of packets
pub empty_by : (v : LinkState) → length v.there ≡ 0 → length v.back ≡ 0 → IsEmpty v
empty_by v there back = (no_length v.there there, no_length v.back back)

-- it is quiet
quiet_by : (v : LinkState) → IsEmpty v → has_work_in v.first.end ≡ false
    → has_work_in v.second.end ≡ false → is_quiet v ≡ true
quiet_by v empty first second = rw (empty.0, empty.1, first, second) refl

pub left_quiet : (side : Side) (v : LinkState) → IsEmpty v → KeepsLink v → LeftAt 0 side v
    → is_quiet v ≡ true
left_quiet First v empty k h =
    let none = left_none v.first v.second
    (holds_empty v.first v.second v.there v.back empty.0 empty.1 k)
    (left_empty 0 v.first v.second v.there v.back empty.0 empty.1 h) in
    quiet_by v empty none.0 none.1
left_quiet Second v empty k h =
    let none = left_none v.second v.first
    (holds_empty v.second v.first v.back v.there empty.1 empty.0 (seen_keeps Second v k))
    (left_empty 0 v.second v.first v.back v.there empty.1 empty.0 h) in
    quiet_by v empty none.1 none.0

-- ---- all of it

settles : (n : ℕ) (side : Side) (v : LinkState) → KeepsLink v → LeftAt n side v
    → SettlesIn n side v
unfolding SettlesIn
settles zero side v k h =
    λ moves may empty.
    left_quiet side (moved_all v moves) empty (keeps_all v k moves may)
    (left_all 0 side v k moves may h)
settles (suc n) side v k h =
    λ moves may empty.
    settles n (other_of side) (ticked_at side (moved_all v moves))
    (events_keep.ticked side (moved_all v moves) (keeps_all v k moves may))
    (left_ticks n side (moved_all v moves) empty (keeps_all v k moves may)
    (left_all (suc n) side v k moves may h))

begins : (side : Side) (v : LinkState) → KeepsLink v → SettlesIn 6 side v
begins side v k = settles 6 side v k (Left.any (omega arith))

-- a move may come before the others
before : (n : ℕ) (side : Side) (v : LinkState) (m : Move) → MayBe v m → SettlesIn n side v
    → SettlesIn n side (moved v m)
unfolding SettlesIn
before zero side v m may h = λ moves all empty. h (m ∷ moves) (may, all) empty
before (suc n) side v m may h = λ moves all empty. h (m ∷ moves) (may, all) empty

ticked : (n : ℕ) (side : Side) (v : LinkState) → IsEmpty v → SettlesIn (suc n) side v
    → SettlesIn n (other_of side) (ticked_at side v)
unfolding SettlesIn
ticked n side v empty h = h [] tt empty

quiet : (side : Side) (v : LinkState) → IsEmpty v → SettlesIn 0 side v → is_quiet v ≡ true
unfolding SettlesIn
quiet side v empty h = h [] tt empty

complete : (side : Side) (v : LinkState) → KeepsLink v → IsEmpty v → SettlesIn 0 side v
    → IsComplete v
complete side v k empty h = quiet_complete v k (quiet side v empty h)

pub links_settle : LinksSettle
links_settle =
    record {
      begins = begins;
      delivered = λ n side from v h. before n side v (comes from) tt h;
      offered = λ n side to m v some is h. before n side v (offers to m) (some, is) h;
      ticked = ticked;
      quiet = quiet;
      complete = complete;
    }
