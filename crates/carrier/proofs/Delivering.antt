-- Each call on a link: the new link is that of the event, and it is told rightly.
use Rattle.std.proofs.Common.{◌≡◌, ◌<◌, ◌≤◌, ◌&&◌, not, ℕ, Bool, true, false, Option, Some, None}
use Rattle.std.proofs.Common.{List, ◌++◌, length, refl, sym, ap, subst, arith, inl, inr, IsSome}
use Rattle.std.proofs.Common.{slice_get}
use Rattle.std.proofs.lemmas.Option.{slice_get_cases}
use Rattle.linx_base.specs.declared.identity.Session.{Session}
use Rattle.linx_base.specs.declared.identity.Side.{Side}
use Rattle.linx_base.specs.declared.identity.Side.TheVariants.{First, Second}
use Rattle.linx_base.specs.declared.frame.Message.{Message}
use Rattle.linx_base.specs.Frames.{IsMessage}
use Rattle.linx_base.specs.Numbers.{boot_of, first_session}
use Rattle.linx_base.specs.Sides.{other_of}
use Rattle.ethcm_headers.specs.declared.packets.Packet.{Packet}
use Rattle.ethcm_end.specs.States.{has_work_in, peer_of}
use Rattle.ethcm_end.specs.Rules.{input_of, offer_of}
use Rattle.carrier.specs.declared.handed.Handed.{Handed}
use Rattle.carrier.specs.Records.{HalfState}
use Rattle.carrier.specs.Events.{LinkState, delivered, drained, flight_from, half_of, handed_as}
use Rattle.carrier.specs.Events.{handed_by, is_quiet, left_after, link_told_by, near_handed}
use Rattle.carrier.specs.Events.{near_took, offered_to, recorded, restarted_at, ticked_at, turned}
use Rattle.carrier.specs.Keeping.{IsFlying, KeepsLink}
use Rattle.carrier.specs.Laws.{BeginsBoot, DownForGreater, EventsTell, IsComplete, Offers}
use Rattle.carrier.specs.Laws.{TellsRightly, handed_of}
use Rattle.carrier.proofs.Ends.{came, offered}
use Rattle.carrier.proofs.Fronts.{all_at}
use Rattle.carrier.proofs.Links.{seen_keeps}
use Rattle.carrier.proofs.Promising.{quiet_is_complete}
use Rattle.carrier.proofs.Telling.{down_for_greater, tells_came, tells_offer, tells_restart}
use Rattle.carrier.proofs.Telling.{tells_tick}

-- ---- a packet

-- a place below the length has an element
stands_at : {X : Type 0} (xs : List X) (k : ℕ) → k < length xs → IsSome (slice_get xs k)
stands_at xs k h =
    elim ((slice_get_cases xs k).1) [
      | inl there ↦ rw there.2 refl
      | inr none ↦ absurd (let upto = none.0 in omega arith)
    ]

module _ (v : LinkState) (k : ℕ) (first : HalfState) (there : List Packet)
    (half : (p : Packet) → slice_get v.back k ≡ Some p
    → first ≡ recorded v.first (drained (input_of v.first.end p).state)
    (input_of v.first.end p).answer)
    (reply : (p : Packet) → slice_get v.back k ≡ Some p
    → there ≡ v.there ++ (input_of v.first.end p).state.out) where
  took_as : (keep : Bool) (back : List Packet) → back ≡ left_after keep k v.back
      → (packet : Option Packet) → slice_get v.back k ≡ packet → IsSome packet
      → record { first = first; second = v.second; there = there; back = back }
      ≡ near_took v k keep packet
  took_as keep back left None e some = absurd (grind arith)
  took_as keep back left (Some p) e some = rw (half p e, reply p e, left) refl

told_as : (v : LinkState) (k : ℕ) (told : Handed)
    → ((p : Packet) → slice_get v.back k ≡ Some p
    → told ≡ handed_as v.first.end.talk.mine p.src (input_of v.first.end p).answer)
    → (packet : Option Packet) → slice_get v.back k ≡ packet → IsSome packet
    → told ≡ near_handed v packet
told_as v k told h None e some = absurd (grind arith)
told_as v k told h (Some p) e some = h p e

module _ (v : LinkState) (k : ℕ) (keep : Bool) where
  -- the second side gets a packet
  pub second_took : (second : HalfState) (there back : List Packet) → k < length v.there
      → ((p : Packet) → slice_get v.there k ≡ Some p
      → second ≡ recorded v.second (drained (input_of v.second.end p).state)
      (input_of v.second.end p).answer)
      → ((p : Packet) → slice_get v.there k ≡ Some p
      → back ≡ v.back ++ (input_of v.second.end p).state.out)
      → there ≡ left_after keep k v.there
      → record { first = v.first; second = second; there = there; back = back }
      ≡ delivered First k keep v
  second_took second there back within half reply left =
      ap turned (took_as (turned v) k second back half reply keep there left
      (slice_get v.there k) refl (stands_at v.there k within))

  pub first_took : (first : HalfState) (there back : List Packet) → k < length v.back
      → ((p : Packet) → slice_get v.back k ≡ Some p
      → first ≡ recorded v.first (drained (input_of v.first.end p).state)
      (input_of v.first.end p).answer)
      → ((p : Packet) → slice_get v.back k ≡ Some p
      → there ≡ v.there ++ (input_of v.first.end p).state.out)
      → back ≡ left_after keep k v.back
      → record { first = first; second = v.second; there = there; back = back }
      ≡ delivered Second k keep v
  first_took first there back within half reply left =
      took_as v k first there half reply keep back left (slice_get v.back k) refl
      (stands_at v.back k within)

pub second_told : (v : LinkState) (k : ℕ) (told : Handed) → k < length v.there
    → ((p : Packet) → slice_get v.there k ≡ Some p
    → told ≡ handed_as v.second.end.talk.mine p.src (input_of v.second.end p).answer)
    → told ≡ handed_by First k v
second_told v k told within h =
    told_as (turned v) k told h (slice_get v.there k) refl (stands_at v.there k within)

pub first_told : (v : LinkState) (k : ℕ) (told : Handed) → k < length v.back
    → ((p : Packet) → slice_get v.back k ≡ Some p
    → told ≡ handed_as v.first.end.talk.mine p.src (input_of v.first.end p).answer)
    → told ≡ handed_by Second k v
first_told v k told within h =
    told_as v k told h (slice_get v.back k) refl (stands_at v.back k within)

-- ---- what is told

module _ (v : LinkState) (k : KeepsLink v) (n : ℕ) (keep : Bool) where
  near_tells : (packet : Option Packet) → slice_get v.back n ≡ packet → IsSome packet
      → TellsRightly v.first (near_took v n keep packet).first v.second (near_handed v packet)
  near_tells None e some = absurd (grind arith)
  near_tells (Some p) e some =
      tells_came k.piece v.first v.second p
      (all_at (IsFlying k.piece v.second v.first) v.back n p k.far.packets e)
      (input_of v.first.end p).state (input_of v.first.end p).answer (came v.first.end p)

  near_down : (packet : Option Packet) → slice_get v.back n ≡ packet → IsSome packet
      → DownForGreater v.first v.second (near_handed v packet)
  near_down None e some = absurd (grind arith)
  near_down (Some p) e some =
      let sized = k.sized in
      down_for_greater k.piece v.first v.second v.there v.back k.near k.far (omega arith) p
      (all_at (IsFlying k.piece v.second v.first) v.back n p k.far.packets e)

module _ (v : LinkState) (k : KeepsLink v) (n : ℕ) where
  pub deliver_tells : (from : Side) (keep : Bool) → n < length (flight_from from v)
      → TellsRightly (half_of (other_of from) v)
      (half_of (other_of from) (delivered from n keep v)) (half_of from v) (handed_by from n v)
  deliver_tells First keep h =
      near_tells (turned v) (seen_keeps Second v k) n keep (slice_get v.there n) refl
      (stands_at v.there n h)
  deliver_tells Second keep h =
      near_tells v k n keep (slice_get v.back n) refl (stands_at v.back n h)

  pub deliver_down : (from : Side) → n < length (flight_from from v)
      → DownForGreater (half_of (other_of from) v) (half_of from v) (handed_by from n v)
  deliver_down First h =
      near_down (turned v) (seen_keeps Second v k) n true (slice_get v.there n) refl
      (stands_at v.there n h)
  deliver_down Second h =
      near_down v k n true (slice_get v.back n) refl (stands_at v.back n h)

-- the sender stays as it is
module _ (v : LinkState) (n : ℕ) (keep : Bool) where
  near_sender : (packet : Option Packet) → (near_took v n keep packet).second ≡ v.second
  near_sender None = refl
  near_sender (Some p) = refl

pub deliver_sender : (v : LinkState) (n : ℕ) (keep : Bool) (from : Side)
    → half_of from (delivered from n keep v) ≡ half_of from v
deliver_sender v n keep First = near_sender (turned v) n keep (slice_get v.there n)
deliver_sender v n keep Second = near_sender v n keep (slice_get v.back n)

pub tick_tells : (v : LinkState) (side : Side)
    → TellsRightly (half_of side v) (half_of side (ticked_at side v)) (half_of (other_of side) v)
    (handed_of (link_told_by side v))
tick_tells v First = tells_tick v.first v.second
tick_tells v Second = tells_tick v.second v.first

pub tick_other : (v : LinkState) (side : Side)
    → half_of (other_of side) (ticked_at side v) ≡ half_of (other_of side) v
tick_other v First = refl
tick_other v Second = refl

near_offers : (v : LinkState) → KeepsLink v → (m : Message) (peer : Option Session)
    → peer_of v.first.end ≡ peer → IsSome peer → IsMessage m
    → Offers v.first (half_of First (offered_to First m v)) m
near_offers v k m None e some is = absurd (grind arith)
near_offers v k m (Some peer) e some is =
    let sized = k.sized in
    tells_offer v.first m (offer_of v.first.end m) (offered v.first.end m peer e)
    (subst (λ n. 64 ≤ n) (sym k.near.cut) sized) is

pub offer_tells : (v : LinkState) → KeepsLink v → (side : Side) (m : Message)
    → IsSome (peer_of (half_of side v).end) → IsMessage m
    → Offers (half_of side v) (half_of side (offered_to side m v)) m
offer_tells v k First m up is = near_offers v k m (peer_of v.first.end) refl up is
offer_tells v k Second m up is =
    near_offers (turned v) (seen_keeps Second v k) m (peer_of v.second.end) refl up is

pub offer_other : (v : LinkState) (side : Side) (m : Message)
    → half_of (other_of side) (offered_to side m v) ≡ half_of (other_of side) v
offer_other v First m = refl
offer_other v Second m = refl

pub restart_tells : (v : LinkState) (side : Side) (boot : ℕ)
    → boot_of (half_of side v).end.talk.mine < boot
    → BeginsBoot (half_of side v) (half_of side (restarted_at side boot v)) (first_session boot)
restart_tells v First boot h = tells_restart v.first boot h
restart_tells v Second boot h = tells_restart v.second boot h

pub restart_other : (v : LinkState) (side : Side) (boot : ℕ)
    → half_of (other_of side) (restarted_at side boot v) ≡ half_of (other_of side) v
restart_other v First boot = refl
restart_other v Second boot = refl

-- ---- quiet

no_work : (still first second : Bool) → (still && (not first && not second)) ≡ true
    → (first ≡ false) × (second ≡ false)
no_work true false false e = (refl, refl)
no_work true false true e = absurd cc
no_work true true second e = absurd cc
no_work false first second e = absurd cc

pub quiet_complete : (v : LinkState) → KeepsLink v → is_quiet v ≡ true → IsComplete v
quiet_complete v k e =
    let none = no_work _ (has_work_in v.first.end) (has_work_in v.second.end) e in
    quiet_is_complete v k none.0 none.1

-- ---- all of it

pub events_tell : EventsTell
events_tell =
    record {
      packet = λ from n keep v k h. deliver_tells v k n from keep h;
      packet_down = λ from n v k h. deliver_down v k n from h;
      packet_sender = λ from n keep v. deliver_sender v n keep from;
      tick = λ side v. tick_tells v side;
      tick_other = λ side v. tick_other v side;
      offer = λ side m v up is k. offer_tells v k side m up is;
      offer_other = λ side m v. offer_other v side m;
      restart = λ side boot v h. restart_tells v side boot h;
      restart_other = λ side boot v. restart_other v side boot;
    }
