-- How long a side has heard nothing, through the events of a trunk.
use Rattle.std.proofs.Common.{◌≡◌, ◌⊎◌, ◌+◌, ◌≤◌, ℕ, Bool, true, false, List, [], ◌∷◌, Option, Some}
use Rattle.std.proofs.Common.{None, inl, inr, arith, refl, sym, ◌∙◌, ap, subst, ◌==◌, if◌then◌else◌}
use Rattle.std.proofs.Common.{is_some, nat_lt, slice_get}
use Rattle.std.proofs.lemmas.Bool.Decides.{nat_tests}
use Rattle.linx_base.specs.Sides.{other_of}
use Rattle.linx_base.specs.declared.frame.Message.{Message}
use Rattle.linx_base.specs.declared.frame.SentFrame.{SentFrame}
use Rattle.linx_base.specs.declared.identity.Session.{Session}
use Rattle.linx_base.specs.declared.identity.Side.{Side}
use Rattle.linx_base.specs.declared.identity.Side.TheVariants.{First, Second}
use Rattle.ethcm_headers.specs.declared.packets.Packet.{Packet}
use Rattle.ethcm_headers.specs.declared.packets.Part.{Part}
use Rattle.ethcm_headers.specs.declared.packets.Part.TheVariants.{Conn, Ack, Nack, Piece}
use Rattle.fragmenter.specs.declared.joiner.Joined.{Joined}
use Rattle.fragmenter.specs.declared.joiner.Joined.TheVariants.{More, Whole, Broken}
use Rattle.ethcm_window.specs.Receiving.{missing_count}
use Rattle.ethcm_window.specs.Sending.{unacknowledged}
use Rattle.ethcm_session.specs.declared.standing.Change.{Change}
use Rattle.ethcm_session.specs.declared.standing.Change.TheVariants as changes
use Rattle.ethcm_session.specs.declared.standing.Standing.{Standing}
use Rattle.ethcm_session.specs.declared.standing.Standing.TheVariants as standings
use Rattle.ethcm_session.specs.Table.{outcome_of}
use Rattle.ethcm_end.specs.declared.answers.Input.{Input}
use Rattle.ethcm_end.specs.declared.answers.Input.TheVariants as inputs
use Rattle.ethcm_end.specs.declared.answers.Ticked.{Ticked}
use Rattle.ethcm_end.specs.declared.answers.Ticked.TheVariants as answers
use Rattle.ethcm_end.specs.States.{EndState, gives, peer_of}
use Rattle.ethcm_end.specs.Rules.{acked, ask, beat, changed, data_in, early, finished, framed_in}
use Rattle.ethcm_end.specs.Rules.{heard, put, input_of, kind_in, lost, offer_in, offer_of, old}
use Rattle.ethcm_end.specs.Rules.{sent_or_ack, take_frames, tick_in, tick_of, ticked as counted}
use Rattle.ethcm_end.specs.Rules.{took, with_early, with_taken}
use Rattle.carrier.specs.Records.{HalfState}
use Rattle.carrier.specs.Events.{LinkState, near_handed, near_offered, recorded, recorded_tick}
use Rattle.carrier.specs.Events.{ticked_as}
use Rattle.carrier.specs.Events as links
use Rattle.carrier.specs.Laws.{TellsRightly}
use Rattle.carrier.specs.declared.handed.Handed.{Handed}
use Rattle.carrier.specs.declared.handed.Handed.TheVariants as handed
use Rattle.carrier.specs.declared.handed.TickedSide.{TickedSide}
use Rattle.carrier.specs.declared.handed.TickedSide.TheVariants as ticked
use Rattle.rlnh_end.specs.declared.heard.Heard.{Heard}
use Rattle.rlnh_end.specs.declared.up.Up.{Up}
use Rattle.rlnh_end.specs.declared.up.Up.TheVariants as ups
use Rattle.rlnh_end.specs.Calls.{Saying, after, begin_of}
use Rattle.rlnh_end.specs.Hearing.{hears}
use Rattle.rlnh_end.specs.Reactions.{rlnh_input_of}
use Rattle.rlnh_end.specs.States.{RlnhTables}
use Rattle.trunk.specs.Events.{TrunkState, delivered, lost_from, near_beat, near_delivered}
use Rattle.trunk.specs.Events.{near_offers, swapped_from, near_said, near_says, near_ticked}
use Rattle.trunk.specs.Events.{near_took, restarted_at, said_at, side_of, ticked_at, told_by}
use Rattle.trunk.specs.Events.{told_of, told_up, turned, with_link}
use Rattle.trunk.specs.Keeping.{KeepsTrunk}
use Rattle.trunk.specs.Tells.{HeardNow, SilenceTells, silent_of}
use Rattle.trunk.proofs.EachEvent.BothSides.{near_tells, turned_keeps}

-- ---- what an end makes of its ticks

sum_zero : (s : EndState) → s.ticks ≡ 0 → (made : Joined) (peer : Session)
    → (finished s peer made).state.ticks ≡ 0
sum_zero s zero More peer = zero
sum_zero s zero (Whole m) peer = zero
sum_zero s zero Broken peer = refl

ask_zero : (s : EndState) → s.ticks ≡ 0 → (peer : Session) → (ask s peer).ticks ≡ 0
ask_zero s zero peer =
    elim s.asked
    as (λ b. (if b then s else record (put s peer
    (Nack s.rx.expected (missing_count s.rx.expected
    s.rx.kept))) { asked = true }).ticks ≡ 0)
    [ true ↦ zero | false ↦ zero ]

framed_zero : (s : EndState) → s.ticks ≡ 0 → (peer : Session) (sent : SentFrame)
    → (framed_in s peer sent).state.ticks ≡ 0
framed_zero s zero peer sent =
    elim (sent.number == s.rx.expected)
    as (λ b. (if b then took s peer sent.frame
    else (if nat_lt sent.number s.rx.expected then old s peer
    else early s peer sent)).state.ticks ≡ 0) [
      | true ↦ sum_zero (with_taken s (take_frames s sent.frame)) zero
          (take_frames s sent.frame).made peer
      | false ↦
          elim (nat_lt sent.number s.rx.expected)
          as (λ b. (if b then old s peer else early s peer sent).state.ticks ≡ 0)
          [ true ↦ zero | false ↦ ask_zero (with_early s sent) zero peer ]
    ]

data_zero : (s : EndState) → s.ticks ≡ 0 → (peer : Session) (part : Part)
    → (data_in s peer part).state.ticks ≡ 0
unfolding data_in
data_zero s zero peer (Conn kind) = zero
data_zero s zero peer (Ack next) = zero
data_zero s zero peer (Nack next count) = zero
data_zero s zero peer (Piece next seq frame) =
    framed_zero (acked s peer next) zero peer (record { number = seq; frame = frame })

-- it heard its peer, or the ticks stay
changed_ticks : (s : EndState) (src : Session) (part : Part) (change : Change)
    → ((changed s src part change).state.ticks ≡ 0)
    ⊎ ((changed s src part change).state.ticks ≡ s.ticks)
changed_ticks s src part changes.Ignored = inr refl
changed_ticks s src part changes.Heard =
    inl (data_zero (heard s) refl src part)
changed_ticks s src part (changes.Reply kind) = inr refl
changed_ticks s src part (changes.WentUp true) = inl refl
changed_ticks s src part _ = inl refl

input_ticks : (s : EndState) (p : Packet) → (input_of s p).state.ticks ≤ s.ticks
unfolding input_of
input_ticks s p =
    let outcome = outcome_of s.talk p.src p.dst (kind_in p.part) in
    elim (changed_ticks (record s { talk = outcome.state }) p.src p.part outcome.change) [
      | inl zero ↦ omega (arith, zero)
      | inr same ↦ omega (arith, same)
    ]

offer_ticks : (s : EndState) (m : Message) → (offer_of s m).ticks ≡ s.ticks
unfolding offer_of
offer_ticks s m = by_standing s.talk.standing
  where
    by_standing : (standing : Standing) → (offer_in s standing m).ticks ≡ s.ticks
    by_standing standings.Connecting = refl
    by_standing (standings.Up peer confirmed) = refl

beat_ticks : (s : EndState) (peer : Session) (frames : List SentFrame)
    → (sent_or_ack (counted s) peer frames).ticks ≡ s.ticks + 1
beat_ticks s peer [] = refl
beat_ticks s peer (f ∷ fs) = refl

tick_ticks : (s : EndState) → (tick_of s).state.ticks ≤ s.ticks + 1
unfolding tick_of
tick_ticks s = by_standing s.talk.standing
  where
    by_standing : (standing : Standing) → (tick_in s standing).state.ticks ≤ s.ticks + 1
    by_standing standings.Connecting = omega arith
    by_standing (standings.Up peer confirmed) = elim (nat_lt (s.ticks + 1) 3)
        as (λ b. (if b then gives (beat s peer) answers.Stays
        else gives (lost s peer) answers.WentDown).state.ticks
        ≤ s.ticks + 1) [
          | true ↦ omega (arith, beat_ticks s peer (unacknowledged s.tx))
          | false ↦ omega arith
        ]

tick_lost : (s : EndState) → (tick_of s).answer ≡ answers.WentDown → 2 ≤ s.ticks
unfolding tick_of
tick_lost s down = by_standing s.talk.standing down
  where
    by_test : (b : Bool) → nat_lt (s.ticks + 1) 3 ≡ b → (peer : Session)
        → (if b then gives (beat s peer) answers.Stays
        else gives (lost s peer) answers.WentDown).answer
        ≡ answers.WentDown → 2 ≤ s.ticks
    by_test true is peer e = absurd cc
    by_test false is peer e = grind (arith, nat_tests)

    by_standing : (standing : Standing) → (tick_in s standing).answer ≡ answers.WentDown
        → 2 ≤ s.ticks
    by_standing standings.Connecting e = absurd cc
    by_standing (standings.Up peer confirmed) e = by_test (nat_lt (s.ticks + 1) 3) refl peer e

-- ---- what the link makes of them

recorded_end : (h : HalfState) (s : EndState) (answer : Input) → (recorded h s answer).end ≡ s
recorded_end h s inputs.Nothing = refl
recorded_end h s inputs.WentUp = refl
recorded_end h s inputs.WentDown = refl
recorded_end h s (inputs.Got m) = refl

recorded_tick_end : (h : HalfState) (s : EndState) (answer : Ticked)
    → (recorded_tick h s answer).end ≡ s
recorded_tick_end h s answers.Stays = refl
recorded_tick_end h s answers.WentDown = refl

packet_ticks : (v : LinkState) (k : ℕ) (keep : Bool)
    → (links.near_delivered v k keep).first.end.ticks ≤ v.first.end.ticks
packet_ticks v k keep = by_packet (slice_get v.back k)
  where
    by_packet : (o : Option Packet)
        → (links.near_took v k keep o).first.end.ticks ≤ v.first.end.ticks
    by_packet None = omega arith
    by_packet (Some p) =
        let r = input_of v.first.end p in
        let is = ap (λ (s : EndState). s.ticks)
        (recorded_end v.first (links.drained r.state) r.answer) in
        omega (arith, is, input_ticks v.first.end p)

tick_link : (v : LinkState) → (links.near_ticked v).first.end.ticks ≤ v.first.end.ticks + 1
tick_link v =
    let r = tick_of v.first.end in
    let is = ap (λ (s : EndState). s.ticks)
    (recorded_tick_end v.first (links.drained r.state) r.answer) in
    omega (arith, is, tick_ticks v.first.end)

pub offers_ticks : (v : LinkState) (ms : List Message)
    → (near_offers v ms).first.end.ticks ≡ v.first.end.ticks
offers_ticks v [] = refl
offers_ticks v (m ∷ ms) = offers_ticks (near_offered v m) ms ∙ offer_ticks v.first.end m

pub offers_second : (v : LinkState) (ms : List Message)
    → (near_offers v ms).second ≡ v.second
offers_second v [] = refl
offers_second v (m ∷ ms) = offers_second (near_offered v m) ms

-- ---- an event at the first side

took_ticks : (t : TrunkState) (v : LinkState) (reading : Heard) (h : Handed)
    → (near_took (with_link t v) reading h).link.first.end.ticks ≡ v.first.end.ticks
took_ticks t v reading handed.Nothing = refl
took_ticks t v reading (handed.WentUp session peer) =
    offers_ticks v (after t.first.end begin_of).out
took_ticks t v reading (handed.WentDown session) = refl
took_ticks t v reading (handed.Got m) =
    offers_ticks v (rlnh_input_of t.first.end reading).state.out

pub took_other : (t : TrunkState) (v : LinkState) (reading : Heard) (h : Handed)
    → (near_took (with_link t v) reading h).link.second ≡ v.second
took_other t v reading handed.Nothing = refl
took_other t v reading (handed.WentUp session peer) =
    offers_second v (after t.first.end begin_of).out
took_other t v reading (handed.WentDown session) = refl
took_other t v reading (handed.Got m) =
    offers_second v (rlnh_input_of t.first.end reading).state.out

near_packet : (t : TrunkState) (k : ℕ) (keep : Bool) (reading : Heard)
    → (near_delivered t k keep reading).link.first.end.ticks ≤ t.link.first.end.ticks
near_packet t k keep reading =
    omega (
      arith,
      packet_ticks t.link k keep,
      took_ticks t (links.near_delivered t.link k keep) reading
          (near_handed t.link (slice_get t.link.back k)),
    )

near_sender : (t : TrunkState) (k : ℕ) (keep : Bool) (reading : Heard)
    → (near_delivered t k keep reading).link.second.end.ticks ≡ t.link.second.end.ticks
near_sender t k keep reading =
    ap (λ (h : HalfState). h.end.ticks)
    (took_other t (links.near_delivered t.link k keep) reading
    (near_handed t.link (slice_get t.link.back k)) ∙ sender (slice_get t.link.back k))
  where
    sender : (o : Option Packet) → (links.near_took t.link k keep o).second ≡ t.link.second
    sender None = refl
    sender (Some p) = refl

-- what is shown was heard now
told_heard : (silent : ℕ) → silent ≡ 0 → (u : Up) → HeardNow silent (told_up u)
told_heard silent zero ups.Nothing = tt
told_heard silent zero (ups.Freed x y n) = tt
told_heard silent zero ups.Bad = tt
told_heard silent zero _ = zero

took_heard : (t : TrunkState) (v : LinkState) (reading : Heard) (h : Handed) (tables : RlnhTables)
    → TellsRightly t.link.first v.first t.link.second h
    → HeardNow v.first.end.ticks (told_of tables reading h)
took_heard t v reading handed.Nothing tables tells = tt
took_heard t v reading (handed.WentUp session peer) tables tells = tells.0.heard
took_heard t v reading (handed.WentDown session) tables tells = tt
took_heard t v reading (handed.Got m) tables tells =
    told_heard v.first.end.ticks tells.heard (hears tables reading).up

near_shown : (t : TrunkState) → KeepsTrunk t → (k : ℕ) (keep : Bool) (reading : Heard)
    → HeardNow (near_delivered t k keep reading).link.first.end.ticks
    (told_of t.first.end.tables reading (near_handed t.link (slice_get t.link.back k)))
near_shown t kt k keep reading =
    let v = links.near_delivered t.link k keep in
    let h = near_handed t.link (slice_get t.link.back k) in
    subst (λ n. HeardNow n (told_of t.first.end.tables reading h))
    (sym (took_ticks t v reading h))
    (took_heard t v reading h t.first.end.tables (near_tells t.link kt.link k keep))

pub beat_same : (t : TrunkState) (told : TickedSide) → (near_beat t told).link ≡ t.link
beat_same t ticked.Stays = refl
beat_same t (ticked.WentDown session) = refl

near_tick : (t : TrunkState) → (near_ticked t).link ≡ links.near_ticked t.link
near_tick t =
    beat_same (with_link t (links.near_ticked t.link))
    (ticked_as t.link.first.end.talk.mine (tick_of t.link.first.end).answer)

near_tick_ticks : (t : TrunkState)
    → (near_ticked t).link.first.end.ticks ≤ t.link.first.end.ticks + 1
near_tick_ticks t =
    omega (arith, ap (λ (v : LinkState). v.first.end.ticks) (near_tick t), tick_link t.link)

near_tick_down : (v : LinkState) (session : Session)
    → ticked_as v.first.end.talk.mine (tick_of v.first.end).answer ≡ ticked.WentDown session
    → 2 ≤ v.first.end.ticks
near_tick_down v session is = by_answer (tick_of v.first.end).answer refl is
  where
    by_answer : (answer : Ticked) → (tick_of v.first.end).answer ≡ answer
        → ticked_as v.first.end.talk.mine answer ≡ ticked.WentDown session
        → 2 ≤ v.first.end.ticks
    by_answer answers.Stays at e = absurd cc
    by_answer answers.WentDown at e = tick_lost v.first.end at

said_ticks : (t : TrunkState) (made : Saying)
    → (near_said t made).link.first.end.ticks ≡ t.link.first.end.ticks
said_ticks t made =
    elim (is_some (peer_of t.link.first.end))
    as (λ b. (if b then near_says t made else t).link.first.end.ticks ≡ t.link.first.end.ticks)
    [ true ↦ offers_ticks t.link (after t.first.end made).out | false ↦ refl ]

said_other : (t : TrunkState) (made : Saying)
    → (near_said t made).link.second.end.ticks ≡ t.link.second.end.ticks
said_other t made =
    elim (is_some (peer_of t.link.first.end))
    as (λ b. (if b then near_says t made else t).link.second.end.ticks
    ≡ t.link.second.end.ticks) [
      | true ↦ ap (λ (h : HalfState). h.end.ticks)
          (offers_second t.link (after t.first.end made).out)
      | false ↦ refl
    ]

-- ---- at both sides

-- packets that are lost or exchanged leave both sides as they are
pub lost_same : (from at : Side) (k : ℕ) (t : TrunkState)
    → (side_of at (lost_from from k t) ≡ side_of at t)
    × (silent_of at (lost_from from k t) ≡ silent_of at t)
lost_same First First k t = (refl, refl)
lost_same First Second k t = (refl, refl)
lost_same Second First k t = (refl, refl)
lost_same Second Second k t = (refl, refl)

pub swapped_same : (from at : Side) (k n : ℕ) (t : TrunkState)
    → (side_of at (swapped_from from k n t) ≡ side_of at t)
    × (silent_of at (swapped_from from k n t) ≡ silent_of at t)
swapped_same First First k n t = (refl, refl)
swapped_same First Second k n t = (refl, refl)
swapped_same Second First k n t = (refl, refl)
swapped_same Second Second k n t = (refl, refl)

pub silence_tells : SilenceTells
silence_tells =
    record {
      packet = packet;
      shown = shown;
      packet_sender = packet_sender;
      lost = λ from at k t. (lost_same from at k t).1;
      swapped = λ from at k n t. (swapped_same from at k n t).1;
      tick = tick;
      tick_down = tick_down;
      tick_other = tick_other;
      restart = restart;
      restart_other = restart_other;
      call = call;
    }
  where
    packet : (from : Side) (k : ℕ) (keep : Bool) (reading : Heard) (t : TrunkState)
        → silent_of (other_of from) (delivered from k keep reading t)
        ≤ silent_of (other_of from) t
    packet First k keep reading t = near_packet (turned t) k keep reading
    packet Second k keep reading t = near_packet t k keep reading

    shown : (from : Side) (k : ℕ) (keep : Bool) (reading : Heard) (t : TrunkState)
        → KeepsTrunk t
        → HeardNow (silent_of (other_of from)
        (delivered from k keep reading t)) (told_by from k reading t)
    shown First k keep reading t kt = near_shown (turned t) (turned_keeps t kt) k keep reading
    shown Second k keep reading t kt = near_shown t kt k keep reading

    packet_sender : (from : Side) (k : ℕ) (keep : Bool) (reading : Heard) (t : TrunkState)
        → silent_of from (delivered from k keep reading t) ≡ silent_of from t
    packet_sender First k keep reading t = near_sender (turned t) k keep reading
    packet_sender Second k keep reading t = near_sender t k keep reading

    tick : (side : Side) (t : TrunkState)
        → silent_of side (ticked_at side t) ≤ silent_of side t + 1
    tick First t = near_tick_ticks t
    tick Second t = near_tick_ticks (turned t)

    tick_down : (side : Side) (t : TrunkState) (session : Session)
        → links.link_told_by side t.link ≡ ticked.WentDown session → 2 ≤ silent_of side t
    tick_down First t session is = near_tick_down t.link session is
    tick_down Second t session is = near_tick_down (links.turned t.link) session is

    tick_other : (side : Side) (t : TrunkState)
        → silent_of (other_of side) (ticked_at side t)
        ≡ silent_of (other_of side) t
    tick_other First t = ap (λ (v : LinkState). v.second.end.ticks) (near_tick t)
    tick_other Second t = ap (λ (v : LinkState). v.second.end.ticks) (near_tick (turned t))

    restart : (side : Side) (boot : ℕ) (t : TrunkState)
        → silent_of side (restarted_at side boot t) ≡ 0
    restart First boot t = refl
    restart Second boot t = refl

    restart_other : (side : Side) (boot : ℕ) (t : TrunkState)
        → silent_of (other_of side) (restarted_at side boot t)
        ≡ silent_of (other_of side) t
    restart_other First boot t = refl
    restart_other Second boot t = refl

    call : (side at : Side) (says : RlnhTables → Saying) (t : TrunkState)
        → silent_of at (said_at side says t) ≡ silent_of at t
    call First First says t = said_ticks t (says t.first.end.tables)
    call First Second says t = said_other t (says t.first.end.tables)
    call Second First says t = said_other (turned t) (says t.second.end.tables)
    call Second Second says t = said_ticks (turned t) (says t.second.end.tables)
