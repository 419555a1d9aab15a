-- What lasts as the first packet from a side comes, and as messages are offered, lasts through
-- moves.
use Rattle.std.proofs.Common.{List, [], ◌∷◌, IsSome, slice_get, false}
use Rattle.linx_base.specs.Frames.{IsMessage}
use Rattle.linx_base.specs.declared.frame.Message.{Message}
use Rattle.linx_base.specs.declared.identity.Side.{Side}
use Rattle.linx_base.specs.declared.identity.Side.TheVariants.{First, Second}
use Rattle.ethcm_headers.specs.declared.packets.Packet.{Packet}
use Rattle.ethcm_end.specs.States.{peer_of}
use Rattle.carrier.specs.Records.{HalfState}
use Rattle.carrier.specs.Events.{LinkState, delivered, half_of, near_took, offered_to, seen_from}
use Rattle.carrier.specs.Events.{turned}
use Rattle.carrier.specs.Keeping.{KeepsLink}
use Rattle.carrier.proofs.Links.{events_keep, seen_keeps}
use Rattle.link_settling.specs.Runs.{MayAllBe, MayBe, Move, moved, moved_all}
use Rattle.link_settling.specs.Runs.Move.{comes, offers}
use Rattle.link_settling.proofs.Ticks.SixTicks.{keeps_moved, some_peer}
use Rattle.link_settling.proofs.Flights.Steps.{Holds, Lasts}

module _ (C : HalfState → HalfState → List Packet → List Packet → Type 0) (lasts : Lasts C) where
  abbrev pub Of : LinkState → Type 0
  Of w = C w.first w.second w.there w.back

  -- of a link that is seen from a side
  abbrev pub At : Side → LinkState → Type 0
  At side v = Of (seen_from side v)

  comes_near : (a b : HalfState) (there back : List Packet) → Holds a b there back
      → C a b there back
      → Of (near_took (record { first = a; second = b; there = there; back = back }) 0 false
      (slice_get back 0))
  comes_near a b there [] k h = h
  comes_near a b there (p ∷ left) k h =
      lasts.near_came a b there left p k (events_keep.delivered Second 0 false
      (record { first = a; second = b; there = there; back = p ∷ left }) k) h

  comes_far : (a b : HalfState) (there back : List Packet) → Holds a b there back
      → C a b there back
      → Of (turned (near_took
      (record { first = b; second = a; there = back; back = there }) 0 false (slice_get there 0)))
  comes_far a b [] back k h = h
  comes_far a b (p ∷ left) back k h =
      lasts.far_came a b left back p k (events_keep.delivered First 0 false
      (record { first = a; second = b; there = p ∷ left; back = back }) k) h

  module _ (v : LinkState) (k : KeepsLink v) where
    by_coming : (side from : Side) → At side v → At side (delivered from 0 false v)
    by_coming First Second h = comes_near v.first v.second v.there v.back k h
    by_coming First First h = comes_far v.first v.second v.there v.back k h
    by_coming Second First h =
        comes_near v.second v.first v.back v.there (seen_keeps Second v k) h
    by_coming Second Second h =
        comes_far v.second v.first v.back v.there (seen_keeps Second v k) h

    by_offer : (side to : Side) (m : Message) → IsSome (peer_of (half_of to v).end)
        → IsMessage m → At side v → At side (offered_to to m v)
    by_offer First First m some is h =
        let up = some_peer (peer_of v.first.end) some in
        lasts.near_offered v.first v.second v.there v.back m up.0 up.1 k
        (events_keep.offered First m v some is k) h
    by_offer First Second m some is h =
        let up = some_peer (peer_of v.second.end) some in
        lasts.far_offered v.first v.second v.there v.back m up.0 up.1 k
        (events_keep.offered Second m v some is k) h
    by_offer Second First m some is h =
        let up = some_peer (peer_of v.first.end) some in
        lasts.far_offered v.second v.first v.back v.there m up.0 up.1 (seen_keeps Second v k)
        (seen_keeps Second (offered_to First m v) (events_keep.offered First m v some is k)) h
    by_offer Second Second m some is h =
        let up = some_peer (peer_of v.second.end) some in
        lasts.near_offered v.second v.first v.back v.there m up.0 up.1 (seen_keeps Second v k)
        (seen_keeps Second (offered_to Second m v) (events_keep.offered Second m v some is k)) h

    by_move : (side : Side) (m : Move) → MayBe v m → At side v → At side (moved v m)
    by_move side (comes from) may h = by_coming side from h
    by_move side (offers to m) may h = by_offer side to m may.0 may.1 h

  pub by_moves : (side : Side) (v : LinkState) → KeepsLink v → (moves : List Move)
      → MayAllBe v moves → At side v → At side (moved_all v moves)
  by_moves side v k [] may h = h
  by_moves side v k (m ∷ moves) may h =
      by_moves side (moved v m) (keeps_moved v k m may.0) moves may.1
      (by_move v k side m may.0 h)
