-- Every link settles in six rounds, in each of which both sides tick once, whichever is the first.
use Rattle.std.proofs.Common.{◌≡◌, ◌≤◌, ℕ, zero, suc, List, [], ◌++◌, sym, subst, arith, inr}
use Rattle.linx_base.specs.Sides.{other_of}
use Rattle.linx_base.specs.declared.identity.Side.{Side}
use Rattle.linx_base.specs.declared.identity.Side.TheVariants.{First, Second}
use Rattle.ethcm_headers.specs.declared.packets.Packet.{Packet}
use Rattle.carrier.specs.Records.{HalfState}
use Rattle.carrier.specs.Events.{LinkState, ticked_at}
use Rattle.carrier.specs.Keeping.{KeepsLink}
use Rattle.carrier.proofs.Links.{events_keep, seen_keeps}
use Rattle.link_settling.specs.Runs.{IsEmpty, MayAllBe, Move, SettlesInRounds, moved_all}
use Rattle.link_settling.proofs.Sides.Fresh.{FarFresh, fresh_beaten, fresh_lasts}
use Rattle.link_settling.proofs.Sides.Hearing.{Calm}
use Rattle.link_settling.proofs.Ticks.TicksLeft.{Left, left_ticked}
use Rattle.link_settling.proofs.Ticks.TicksLeft.Left.{any, begun, calling, calm, ending, joining}
use Rattle.link_settling.proofs.Ticks.TicksLeft.Left.{opening, stale}
use Rattle.link_settling.proofs.Flights.Moves.{At, by_moves}
use Rattle.link_settling.proofs.Ticks.SixTicks.{LeftAt, holds_empty, keeps_all, left_all}
use Rattle.link_settling.proofs.Ticks.SixTicks.{left_empty, left_quiet}
use Rattle.link_settling.proofs.Flights.Steps.{Holds, beaten, beaten_out}
use Rattle.link_settling.proofs.Ticks.OneTick.{ticks_calm}
use Rattle.link_settling.proofs.Ticks.AnyOrder.{calm_heard, extra_ticked, left_more, useful_fresh}

-- ---- a tick while nothing is in flight

module _ (n : ℕ) (a b : HalfState) (there back : List Packet) (e : there ≡ []) (q : back ≡ [])
    (k : Holds a b there back) where
  none_flies : Holds a b [] []
  none_flies = holds_empty a b there back e q k

  -- side a's, whose turn it is
  turn_left : Left (suc n) a b there back → Left n b (beaten a) back (there ++ beaten_out a)
  turn_left h =
      subst (λ l. Left n b (beaten a) l (there ++ beaten_out a)) (sym q)
      (subst (λ l. Left n b (beaten a) [] (l ++ beaten_out a)) (sym e)
      (left_ticked n a b none_flies (left_empty (suc n) a b there back e q h)))

  turn_fresh : Left (suc n) a b there back → FarFresh n b (beaten a) back (there ++ beaten_out a)
  turn_fresh h few =
      useful_fresh n a b none_flies (left_empty (suc n) a b there back e q h) few

  -- side b's, whose turn it isn't
  extra_left : Left n a b there back → FarFresh n a b there back
      → Left n a (beaten b) there (back ++ beaten_out b)
  extra_left h fresh =
      subst (λ l. Left n a (beaten b) l (back ++ beaten_out b)) (sym e)
      (subst (λ l. Left n a (beaten b) [] (l ++ beaten_out b)) (sym q)
      (extra_ticked n a b none_flies (left_empty n a b there back e q h) fresh))

-- side a's, of which no more is asked
module _ (a b : HalfState) (there back : List Packet) (e : there ≡ []) (q : back ≡ [])
    (k : Holds a b there back) where
  calm_none : Left 0 a b [] [] → Calm a b [] []
  calm_none (calm h) = h
  calm_none (begun l h) = absurd (omega arith)
  calm_none (joining l h) = absurd (omega arith)
  calm_none (opening l h) = absurd (omega arith)
  calm_none (calling l h) = absurd (omega arith)
  calm_none (ending l h) = absurd (omega arith)
  calm_none (stale l h) = absurd (omega arith)
  calm_none (any l) = absurd (omega arith)

  same_left : (n : ℕ) → Left n a b there back → Left n b (beaten a) back (there ++ beaten_out a)
  same_left zero h =
      subst (λ l. Left 0 b (beaten a) l (there ++ beaten_out a)) (sym q)
      (subst (λ l. Left 0 b (beaten a) [] (l ++ beaten_out a)) (sym e)
      (calm (ticks_calm a b (holds_empty a b there back e q k)
      (calm_none (left_empty 0 a b there back e q h)).begun)))
  same_left (suc n) h =
      left_more n b (beaten a) back (there ++ beaten_out a) (turn_left n a b there back e q k h)

  same_fresh : (n : ℕ) → Left n a b there back
      → FarFresh n b (beaten a) back (there ++ beaten_out a)
  same_fresh zero h few =
      fresh_beaten a (inr (calm_heard 0 a b (holds_empty a b there back e q k)
      (calm_none (left_empty 0 a b there back e q h))).ticks)
  same_fresh (suc n) h few = turn_fresh n a b there back e q k h (omega arith)

-- ---- the same of a link

abbrev FreshAt : ℕ → Side → LinkState → Type 0
FreshAt n side v = At (FarFresh n) (fresh_lasts n) side v

record FreeAt (n : ℕ) (side : Side) (v : LinkState) : Type 0 where
  pub left : LeftAt n side v
  pub fresh : FreshAt n side v

module _ (n : ℕ) where
  own_tick : (side : Side) (v : LinkState) → IsEmpty v → KeepsLink v → LeftAt (suc n) side v
      → FreeAt n (other_of side) (ticked_at side v)
  own_tick First v empty k h =
      record {
        left = turn_left n v.first v.second v.there v.back empty.0 empty.1 k h;
        fresh = turn_fresh n v.first v.second v.there v.back empty.0 empty.1 k h;
      }
  own_tick Second v empty k h =
      let t = seen_keeps Second v k in
      record {
        left = turn_left n v.second v.first v.back v.there empty.1 empty.0 t h;
        fresh = turn_fresh n v.second v.first v.back v.there empty.1 empty.0 t h;
      }

  more_tick : (side : Side) (v : LinkState) → IsEmpty v → KeepsLink v → LeftAt n side v
      → FreeAt n (other_of side) (ticked_at side v)
  more_tick First v empty k h =
      record {
        left = same_left v.first v.second v.there v.back empty.0 empty.1 k n h;
        fresh = same_fresh v.first v.second v.there v.back empty.0 empty.1 k n h;
      }
  more_tick Second v empty k h =
      let t = seen_keeps Second v k in
      record {
        left = same_left v.second v.first v.back v.there empty.1 empty.0 t n h;
        fresh = same_fresh v.second v.first v.back v.there empty.1 empty.0 t n h;
      }

  extra_tick : (side : Side) (v : LinkState) → IsEmpty v → KeepsLink v → FreeAt n side v
      → LeftAt n side (ticked_at (other_of side) v)
  extra_tick First v empty k h =
      extra_left n v.first v.second v.there v.back empty.0 empty.1 k h.left h.fresh
  extra_tick Second v empty k h =
      extra_left n v.second v.first v.back v.there empty.1 empty.0 (seen_keeps Second v k) h.left
      h.fresh

  free_all : (side : Side) (v : LinkState) → KeepsLink v → (moves : List Move)
      → MayAllBe v moves → FreeAt n side v → FreeAt n side (moved_all v moves)
  free_all side v k moves may h =
      record {
        left = left_all n side v k moves may h.left;
        fresh = by_moves (FarFresh n) (fresh_lasts n) side v k moves may h.fresh;
      }

-- ---- a round

-- the side whose turn it is begins
round_own : (n : ℕ) (side : Side) (v : LinkState) → IsEmpty v → KeepsLink v
    → FreeAt (suc n) side v → (between : List Move) → MayAllBe (ticked_at side v) between
    → IsEmpty (moved_all (ticked_at side v) between)
    → FreeAt n (other_of (other_of side))
    (ticked_at (other_of side) (moved_all (ticked_at side v) between))
round_own n side v empty k h between may still =
    let x : LinkState = ticked_at side v in
    let kx = events_keep.ticked side v k in
    let own = own_tick n side v empty k h.left in
    more_tick n (other_of side) (moved_all x between) still (keeps_all x kx between may)
    (left_all n (other_of side) x kx between may own.left)

-- the other side begins
round_other : (n : ℕ) (side : Side) (v : LinkState) → IsEmpty v → KeepsLink v
    → FreeAt (suc n) side v → (between : List Move)
    → MayAllBe (ticked_at (other_of side) v) between
    → IsEmpty (moved_all (ticked_at (other_of side) v) between)
    → FreeAt n (other_of side)
    (ticked_at side (moved_all (ticked_at (other_of side) v) between))
round_other n side v empty k h between may still =
    let x : LinkState = ticked_at (other_of side) v in
    let kx = events_keep.ticked (other_of side) v k in
    let extra = extra_tick (suc n) side v empty k h in
    own_tick n side (moved_all x between) still (keeps_all x kx between may)
    (left_all (suc n) side x kx between may extra)

-- either side begins
round : (n : ℕ) (side first : Side) (v : LinkState) → IsEmpty v → KeepsLink v
    → FreeAt (suc n) side v → (between : List Move) → MayAllBe (ticked_at first v) between
    → IsEmpty (moved_all (ticked_at first v) between)
    → (next : Side)
    × FreeAt n next (ticked_at (other_of first) (moved_all (ticked_at first v) between))
round n First First v empty k h between may still =
    (First, round_own n First v empty k h between may still)
round n Second Second v empty k h between may still =
    (Second, round_own n Second v empty k h between may still)
round n First Second v empty k h between may still =
    (Second, round_other n First v empty k h between may still)
round n Second First v empty k h between may still =
    (First, round_other n Second v empty k h between may still)

settles_by : (n : ℕ) (side : Side) (v : LinkState) → KeepsLink v → FreeAt n side v
    → SettlesInRounds n v
unfolding SettlesInRounds
settles_by zero side v k h =
    λ moves may empty.
    left_quiet side (moved_all v moves) empty (keeps_all v k moves may)
    (left_all 0 side v k moves may h.left)
settles_by (suc n) side v k h =
    λ moves may empty first between allowed still.
    let w : LinkState = moved_all v moves in
    let kw = keeps_all v k moves may in
    let x : LinkState = ticked_at first w in
    let kx = events_keep.ticked first w kw in
    let next = round n side first w empty kw (free_all (suc n) side v k moves may h) between
    allowed still in
    settles_by n next.0 (ticked_at (other_of first) (moved_all x between))
    (events_keep.ticked (other_of first) (moved_all x between) (keeps_all x kx between allowed))
    next.1

pub links_settle_in_rounds : (n : ℕ) (v : LinkState) → 6 ≤ n → KeepsLink v → SettlesInRounds n v
links_settle_in_rounds n v enough k =
    settles_by n First v k (record {
      left = any enough;
      fresh = λ few. absurd (omega arith);
    })
