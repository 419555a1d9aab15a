-- How many messages a side has offered in its session once a packet came, or a tick or a restart: a
-- packet is answered by one message at most, and a session begins with none.
use Rattle.std.proofs.Common.{◌≡◌, ◌≤◌, ◌+◌, ℕ, Bool, List, [], ◌∷◌, Option, Some, None, length}
use Rattle.std.proofs.Common.{arith, refl, sym, ◌∙◌, ap, subst, slice_get}
use Rattle.linx_base.specs.Sides.{other_of}
use Rattle.linx_base.specs.declared.identity.Session.{Session}
use Rattle.linx_base.specs.declared.identity.Side.{Side}
use Rattle.linx_base.specs.declared.identity.Side.TheVariants.{First, Second}
use Rattle.ethcm_headers.specs.declared.packets.Packet.{Packet}
use Rattle.rlnh_end.specs.declared.heard.Heard.{Heard}
use Rattle.rlnh_end.specs.Calls.{begin_of, query_of, with_words}
use Rattle.rlnh_end.specs.Hearing.{hears}
use Rattle.ethcm_end.specs.declared.answers.Input.{Input}
use Rattle.ethcm_end.specs.declared.answers.Input.TheVariants as inputs
use Rattle.ethcm_end.specs.declared.answers.Ticked.{Ticked}
use Rattle.ethcm_end.specs.declared.answers.Ticked.TheVariants as ticks
use Rattle.ethcm_end.specs.Rules.{input_of, tick_of}
use Rattle.ethcm_end.specs.States.{EndState, peer_of}
use Rattle.carrier.specs.declared.handed.Handed.{Handed}
use Rattle.carrier.specs.declared.handed.Handed.TheVariants as handed
use Rattle.carrier.specs.declared.handed.TickedSide.TheVariants as ticked
use Rattle.carrier.specs.Events.{LinkState, drained, handed_by, half_of, near_handed, recorded}
use Rattle.carrier.specs.Events.{recorded_tick, ticked_as}
use Rattle.carrier.specs.Events as links
use Rattle.carrier.specs.Keeping.{KeepsLink}
use Rattle.carrier.specs.Records.{HalfState}
use Rattle.trunk.specs.declared.up.TrunkUp.TheVariants.{WentUp}
use Rattle.trunk.specs.Events.{IsReading, TrunkState, asked_at, delivered, kept_of, lost_from}
use Rattle.trunk.specs.Events.{near_beat, near_took, restarted_at, swapped_from, ticked_at, told_by}
use Rattle.trunk.specs.Events.{turned, with_link}
use Rattle.trunk.specs.Keeping.{KeepsTrunk}
use Rattle.trunk.specs.Tells.{TellsSide}
use Rattle.trunk.proofs.Messages.Reading.{reply_few}
use Rattle.trunk.proofs.EachEvent.Trunks.{agree, events_tell}
use Rattle.trunk_moves.specs.Packets.{asks_for}
use Rattle.trunk.proofs.Sessions.Silence.{beat_same, took_other}
use Rattle.run_numbers.proofs.Offers.{HasSaidAll, OffersUpTo, near_count, offers}
use Rattle.run_numbers.proofs.Offers.{said_all, said_offers, said_stays, words_few}

-- ---- a packet, at the link

recorded_few : (h : HalfState) (s : EndState) (answer : Input) (n : ℕ) → length h.offered ≤ n
    → length (recorded h s answer).offered ≤ n
recorded_few h s inputs.Nothing n was = was
recorded_few h s inputs.WentUp n was = was
recorded_few h s inputs.WentDown n was = omega arith
recorded_few h s (inputs.Got m) n was = was

came_few : (v : LinkState) (k : ℕ) (keep : Bool) (o : Option Packet) (n : ℕ)
    → length v.first.offered ≤ n → length (links.near_took v k keep o).first.offered ≤ n
came_few v k keep None n was = was
came_few v k keep (Some p) n was =
    let r = input_of v.first.end p in
    recorded_few v.first (drained r.state) r.answer n was

came_other : (v : LinkState) (k : ℕ) (keep : Bool) (o : Option Packet)
    → (links.near_took v k keep o).second ≡ v.second
came_other v k keep None = refl
came_other v k keep (Some p) = refl

-- ---- a packet, at the trunk

took_few : (t : TrunkState) (v : LinkState) (reading : Heard) (h : Handed) (n : ℕ)
    → t.first.end.out ≡ [] → length v.first.offered ≤ n
    → length (near_took (with_link t v) reading h).link.first.offered ≤ n + 1
took_few t v reading handed.Nothing n none was = omega (arith, was)
took_few t v reading (handed.WentUp session peer) n none was =
    omega (
      arith,
      near_count v (with_words t.first.end.out begin_of.says),
      words_few t.first.end.out begin_of.says,
      ap (λ ms. length ms) none,
      was,
    )
took_few t v reading (handed.WentDown session) n none was = omega (arith, was)
took_few t v reading (handed.Got m) n none was =
    omega (
      arith,
      near_count v (with_words t.first.end.out (hears t.first.end.tables reading).made.says),
      words_few t.first.end.out (hears t.first.end.tables reading).made.says,
      reply_few t.first.end.tables reading,
      ap (λ ms. length ms) none,
      was,
    )

module _ (t : TrunkState) (k : ℕ) (keep : Bool) (reading : Heard) where
  abbrev came : LinkState
  came = links.near_delivered t.link k keep

  abbrev told : Handed
  told = near_handed t.link (slice_get t.link.back k)

  near_few : (n : ℕ) → t.first.end.out ≡ [] → length t.link.first.offered ≤ n
      → length (near_took (with_link t came) reading told).link.first.offered ≤ n + 1
  near_few n none was =
      took_few t came reading told n none
      (came_few t.link k keep (slice_get t.link.back k) n was)

  near_stays : (near_took (with_link t came) reading told).link.second ≡ t.link.second
  near_stays =
      took_other t came reading told ∙ came_other t.link k keep (slice_get t.link.back k)

-- at the side that it comes to
pub delivered_few : (from : Side) (k : ℕ) (keep : Bool) (reading : Heard) (t : TrunkState) (n : ℕ)
    → HasSaidAll (other_of from) t → offers (other_of from) t ≤ n
    → offers (other_of from) (delivered from k keep reading t) ≤ n + 1
delivered_few First k keep reading t n none was = near_few (turned t) k keep reading n none was
delivered_few Second k keep reading t n none was = near_few t k keep reading n none was

-- the other one stays
pub delivered_stays : (from : Side) (k : ℕ) (keep : Bool) (reading : Heard) (t : TrunkState)
    → offers from (delivered from k keep reading t) ≡ offers from t
delivered_stays First k keep reading t =
    ap (λ (h : HalfState). length h.offered) (near_stays (turned t) k keep reading)
delivered_stays Second k keep reading t =
    ap (λ (h : HalfState). length h.offered) (near_stays t k keep reading)

-- ---- a side that goes up had offered nothing

half_none : (side : Side) (v : LinkState) → KeepsLink v → peer_of (half_of side v).end ≡ None
    → (half_of side v).offered ≡ []
half_none First v kept none = kept.near.book.unpaired none
half_none Second v kept none = kept.far.book.unpaired none

pub up_offers : (from : Side) (keep : Bool) (reading : Heard) (t : TrunkState) → KeepsTrunk t
    → IsReading (handed_by from 0 t.link) reading → (x y : Session)
    → told_by from 0 reading t ≡ WentUp x y → offers (other_of from) t ≤ 0
up_offers from keep reading t kept read x y is =
    let tells = subst (TellsSide (kept_of (other_of from) t)
    (kept_of (other_of from) (delivered from 0 keep reading t)) (kept_of from t)) is
    (events_tell.packets.side from 0 keep reading t kept read) in
    omega (
      arith,
      ap (λ ms. length ms) (half_none (other_of from) t.link kept.link
          ((agree (other_of from) t kept).peer ∙ tells.was_down)),
    )

-- ---- questions

pub asks_few : (at : Side) (names : List (List ℕ)) (t : TrunkState) (n : ℕ) → HasSaidAll at t
    → offers at t ≤ n → offers at (asks_for at names t) ≤ n + length names
asks_few at [] t n none was = omega (arith, was)
asks_few at (v ∷ names) t n none was =
    omega (
      arith,
      asks_few at names (asked_at at v t) (n + 1) (said_all at (λ s. query_of s v) t none)
          (said_offers at (λ s. query_of s v) t n 1 none was (omega arith)),
    )

pub asks_stay : (at : Side) (names : List (List ℕ)) (t : TrunkState)
    → offers (other_of at) (asks_for at names t) ≡ offers (other_of at) t
asks_stay at [] t = refl
asks_stay at (v ∷ names) t =
    asks_stay at names (asked_at at v t) ∙ said_stays at (λ s. query_of s v) t

-- ---- a packet that is lost or exchanged, a tick, a restart

pub lost_offers : (from side : Side) (k : ℕ) (t : TrunkState)
    → offers side (lost_from from k t) ≡ offers side t
lost_offers First First k t = refl
lost_offers First Second k t = refl
lost_offers Second First k t = refl
lost_offers Second Second k t = refl

pub swapped_offers : (from side : Side) (k j : ℕ) (t : TrunkState)
    → offers side (swapped_from from k j t) ≡ offers side t
swapped_offers First First k j t = refl
swapped_offers First Second k j t = refl
swapped_offers Second First k j t = refl
swapped_offers Second Second k j t = refl

ticked_few : (h : HalfState) (s : EndState) (answer : Ticked) (n : ℕ) → length h.offered ≤ n
    → length (recorded_tick h s answer).offered ≤ n
ticked_few h s ticks.Stays n was = was
ticked_few h s ticks.WentDown n was = omega arith

module _ (t : TrunkState) where
  abbrev beat : TrunkState
  beat = near_beat (with_link t (links.near_ticked t.link))
      (ticked_as t.link.first.end.talk.mine (tick_of t.link.first.end).answer)

  beaten : beat.link ≡ links.near_ticked t.link
  beaten = beat_same (with_link t (links.near_ticked t.link))
      (ticked_as t.link.first.end.talk.mine (tick_of t.link.first.end).answer)

  beat_few : (n : ℕ) → length t.link.first.offered ≤ n → length beat.link.first.offered ≤ n
  beat_few n was =
      let r = tick_of t.link.first.end in
      subst (λ (v : LinkState). length v.first.offered ≤ n) (sym beaten)
      (ticked_few t.link.first (drained r.state) r.answer n was)

  beat_stays : beat.link.second ≡ t.link.second
  beat_stays = ap (λ (v : LinkState). v.second) beaten

pub ticked_offers : (at : Side) (t : TrunkState) (n : ℕ) → OffersUpTo n t
    → OffersUpTo n (ticked_at at t)
ticked_offers First t n was First = beat_few t n (was First)
ticked_offers First t n was Second =
    omega (arith, was Second, ap (λ (h : HalfState). length h.offered) (beat_stays t))
ticked_offers Second t n was First =
    omega (arith, was First, ap (λ (h : HalfState). length h.offered) (beat_stays (turned t)))
ticked_offers Second t n was Second = beat_few (turned t) n (was Second)

pub restarted_offers : (at : Side) (boot : ℕ) (t : TrunkState) (n : ℕ) → OffersUpTo n t
    → OffersUpTo n (restarted_at at boot t)
restarted_offers First boot t n was First = omega arith
restarted_offers First boot t n was Second = was Second
restarted_offers Second boot t n was First = was First
restarted_offers Second boot t n was Second = omega arith
