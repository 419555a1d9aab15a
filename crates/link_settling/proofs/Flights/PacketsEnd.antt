-- Packets that come, without ticks and offers, come to an end.
use Rattle.std.proofs.Common.{◌≡◌, ◌⊎◌, ◌+◌, ◌<◌, ◌≤◌, ℕ, false, Option, Some, None, List, [], ◌∷◌}
use Rattle.std.proofs.Common.{◌++◌, length, map, refl, sym, ap, subst, arith, inl, inr, IsSome}
use Rattle.std.proofs.Common.{slice_get, remove}
use Rattle.std.proofs.lemmas.Option.{slice_get_cases}
use Rattle.linx_base.specs.declared.frame.ConnKind.TheVariants as kinds
use Rattle.linx_base.specs.declared.identity.Session.{Session}
use Rattle.linx_base.specs.declared.identity.Side.{Side}
use Rattle.linx_base.specs.declared.identity.Side.TheVariants.{First, Second}
use Rattle.linx_base.specs.Frames.{IsMessage}
use Rattle.linx_base.specs.declared.frame.Message.{Message}
use Rattle.ethcm_headers.specs.declared.packets.Packet.{Packet}
use Rattle.ethcm_headers.specs.declared.packets.Part.TheVariants.{Conn}
use Rattle.ethcm_session.specs.declared.standing.Standing.{Standing}
use Rattle.ethcm_session.specs.declared.standing.Standing.TheVariants.{Connecting, Up}
use Rattle.ethcm_window.specs.Sending.{Sender, coming_in, with_frames}
use Rattle.fragmenter.specs.Pieces.{pieces_of}
use Rattle.ethcm_end.specs.declared.answers.Input.{Input}
use Rattle.ethcm_end.specs.declared.answers.Input.TheVariants as inputs
use Rattle.ethcm_end.specs.States.{EndState, peer_of}
use Rattle.ethcm_end.specs.Rules.{input_of, offer_in, offer_of, piece_packet}
use Rattle.carrier.specs.Events.{LinkState, delivered, drained, flight_from, handed_as, handed_by}
use Rattle.carrier.specs.Events.{half_of, near_handed, near_offered, near_took, offered_to, turned}
use Rattle.carrier.specs.declared.handed.Handed.{Handed}
use Rattle.carrier.specs.declared.handed.Handed.TheVariants.{Got, WentUp}
use Rattle.carrier.specs.Keeping.{IsFlying, KeepsLink}
use Rattle.carrier.specs.Laws.{TellsRightly}
use Rattle.carrier.specs.Records.{HalfState}
use Rattle.carrier.proofs.Delivering.{events_tell}
use Rattle.carrier.proofs.Fronts.{all_at}
use Rattle.carrier.proofs.Links.{events_keep, seen_keeps}
use Rattle.link_settling.specs.Laws.{AreInFlight, DeliveriesEnd, come_all}
use Rattle.link_settling.specs.Runs.{IsEmpty}
use Rattle.link_settling.specs.Measure.{Falls, Measure, connects, due, ends_up, measure, total}
use Rattle.link_settling.proofs.Flights.Counting.{no_length, pieces_alone, total-append, total_none}
use Rattle.link_settling.proofs.Flights.Counting.{total_one, total_removed}
use Rattle.link_settling.proofs.Flights.Measures.{falls_inducts}
use Rattle.link_settling.proofs.Flights.Lowering.{Lower, lowers}
use Rattle.link_settling.proofs.Flights.AllSent.{by_drained_offer, by_drained_rules}
use Rattle.link_settling.proofs.Flights.Weights.{handed_due, offered_due}

-- ---- a packet, from any place

-- the measure of a link seen from its other side
pub turned_measure : (weight : Message → ℕ) (v : LinkState)
    → measure weight (turned v) ≡ measure weight v
turned_measure weight v =
    let m : Measure = measure weight v in
    let n : Measure = measure weight (turned v) in
    let connecting : n.connecting ≡ m.connecting = omega arith in
    let up : n.up ≡ m.up = omega arith in
    let is_due : n.due ≡ m.due = omega arith in
    let untaken : n.untaken ≡ m.untaken = omega arith in
    let unsent : n.unsent ≡ m.unsent = omega arith in
    let asking : n.asking ≡ m.asking = omega arith in
    let pieces : n.pieces ≡ m.pieces = omega arith in
    let others : n.others ≡ m.others = omega arith in
    rw (connecting, up, is_due, untaken, unsent, asking, pieces, others) refl

near_falls : (weight : Message → ℕ) (v : LinkState) → KeepsLink v → (k : ℕ)
    (packet : Option Packet) → slice_get v.back k ≡ packet → IsSome packet
    → Falls (measure weight (near_took v k false packet)) (measure weight v)
unfolding Lower
near_falls weight v keeps k None e some = absurd (grind arith)
near_falls weight v keeps k (Some p) e some =
    lowers weight v.first v.second v.there v.back (remove v.back k) p
    (λ f. total_removed f v.back k p e) keeps.piece keeps.far.cut keeps.near.out
    (all_at (IsFlying keeps.piece v.second v.first) v.back k p keeps.far.packets e)

stands : {X : Type 0} (xs : List X) (k : ℕ) → k < length xs → IsSome (slice_get xs k)
stands xs k h =
    elim ((slice_get_cases xs k).1) [
      | inl there ↦ rw there.2 refl
      | inr none ↦ absurd (let upto = none.0 in omega arith)
    ]

falls : (weight : Message → ℕ) (from : Side) (k : ℕ) (v : LinkState) → KeepsLink v
    → k < length (flight_from from v)
    → Falls (measure weight (delivered from k false v)) (measure weight v)
falls weight Second k v keeps h =
    near_falls weight v keeps k (slice_get v.back k) refl (stands v.back k h)
falls weight First k v keeps h =
    subst (λ m. Falls (measure weight (delivered First k false v)) m) (turned_measure weight v)
    (subst (λ m. Falls m (measure weight (turned v)))
    (sym (turned_measure weight (near_took (turned v) k false (slice_get v.there k))))
    (near_falls weight (turned v) (seen_keeps Second v keeps) k (slice_get v.there k) refl
    (stands v.there k h)))

-- ---- a packet that takes an end up

up_fewer : (s : EndState) (p : Packet) → s.out ≡ [] → (input_of s p).answer ≡ inputs.WentUp
    → total connects (input_of s p).state.out < connects p.part
up_fewer s p out =
    let z = total_none connects in
    by_drained_rules (λ r. r.answer ≡ inputs.WentUp
    → total connects r.state.out < connects p.part) s p out (record {
      connecting_connect = λ e k up. absurd (grind arith);
      connecting_connect_ack = λ e k d up.
          let one = total_one connects
          (record { src = s.talk.mine; dst = p.src.0; part = Conn kinds.Ack }) in
          let was : connects p.part ≡ 2 = ap connects k in
          omega arith;
      connecting_ack = λ e k d up.
          let was : connects p.part ≡ 1 = ap connects k in
          omega arith;
      connecting_other = λ e x y w up. absurd (grind arith);
      up_lower = λ peer e l up. absurd (grind arith);
      up_greater = λ peer e l up. absurd (grind arith);
      up_connect = λ e k up. absurd (grind arith);
      up_not_mine = λ e k d up. absurd (grind arith);
      up_reset = λ between k up. absurd (grind arith);
      up_connect_ack = λ between k up. absurd (grind arith);
      up_ack = λ between k up. absurd (grind arith);
      frames_acked = λ next between k up. absurd (grind arith);
      frames_missed = λ next count between k up. absurd (grind arith);
      old = λ next seq frame between k l up. absurd (grind arith);
      early_again = λ next seq frame between k l q up. absurd (grind arith);
      early = λ next seq frame between k l q up. absurd (grind arith);
      taken = λ next frame between k m up. absurd (grind arith);
      taken_whole = λ next frame m between k w up. absurd (grind arith);
      taken_broken = λ next frame between k w up. absurd (grind arith);
    })

handed_up : (mine src session peer : Session) (answer : Input)
    → handed_as mine src answer ≡ WentUp session peer → answer ≡ inputs.WentUp
handed_up mine src session peer inputs.Nothing e = absurd (grind arith)
handed_up mine src session peer inputs.WentUp e = refl
handed_up mine src session peer inputs.WentDown e = absurd (grind arith)
handed_up mine src session peer (inputs.Got m) e = absurd (grind arith)

near_up : (weight : Message → ℕ) (v : LinkState) → KeepsLink v → (k : ℕ)
    (session peer : Session) (packet : Option Packet) → slice_get v.back k ≡ packet
    → near_handed v packet ≡ WentUp session peer
    → (measure weight (near_took v k false packet)).connecting < (measure weight v).connecting
near_up weight v keeps k session peer None e up = absurd (grind arith)
near_up weight v keeps k session peer (Some p) e up =
    let less = up_fewer v.first.end p keeps.near.out
    (handed_up v.first.end.talk.mine p.src session peer (input_of v.first.end p).answer up) in
    let n = total-append connects v.there (input_of v.first.end p).state.out in
    let o = total_removed connects v.back k p e in
    omega arith

goes_up : (weight : Message → ℕ) (from : Side) (k : ℕ) (session peer : Session) (v : LinkState)
    → KeepsLink v → handed_by from k v ≡ WentUp session peer
    → (measure weight (delivered from k false v)).connecting < (measure weight v).connecting
goes_up weight Second k session peer v keeps up =
    near_up weight v keeps k session peer (slice_get v.back k) refl up
goes_up weight First k session peer v keeps up =
    let less = near_up weight (turned v) (seen_keeps Second v keeps) k session peer
    (slice_get v.there k) refl up in
    omega arith

-- ---- a message that is handed up

-- the messages that are due on both sides
abbrev both_due : (Message → ℕ) → HalfState → HalfState → ℕ
both_due weight a b = due weight a b + due weight b a

handed_up_due : (weight : Message → ℕ) (a : HalfState) (v : LinkState) (m : Message)
    (told : Handed) → told ≡ Got m → TellsRightly a v.first v.second told → KeepsLink v
    → both_due weight v.first v.second + weight m ≤ both_due weight a v.second
handed_up_due weight a v m told is tells keeps =
    handed_due weight a v m (subst (λ h. TellsRightly a v.first v.second h) is tells) keeps

handed : (weight : Message → ℕ) (from : Side) (k : ℕ) (m : Message) (v : LinkState)
    → KeepsLink v → k < length (flight_from from v) → handed_by from k v ≡ Got m
    → (measure weight (delivered from k false v)).due + weight m ≤ (measure weight v).due
handed weight Second k m v keeps h is =
    let same = events_tell.packet_sender Second k false v in
    let tells = subst (λ b. TellsRightly v.first (delivered Second k false v).first b
    (handed_by Second k v)) (sym same) (events_tell.packet Second k false v keeps h) in
    let less = handed_up_due weight v.first (delivered Second k false v) m
    (handed_by Second k v) is tells (events_keep.delivered Second k false v keeps) in
    let were = ap (λ b. both_due weight v.first b) same in
    omega arith
handed weight First k m v keeps h is =
    let w : LinkState = turned (delivered First k false v) in
    let same = events_tell.packet_sender First k false v in
    let tells = subst (λ b. TellsRightly v.second w.first b (handed_by First k v)) (sym same)
    (events_tell.packet First k false v keeps h) in
    let less = handed_up_due weight v.second w m (handed_by First k v) is tells
    (seen_keeps Second (delivered First k false v) (events_keep.delivered First k false v keeps)) in
    let were = ap (λ b. both_due weight v.second b) same in
    omega arith

-- ---- an offer

-- what an end that is offered a message sends makes no connection, and leaves who is up
record Offered (there : List Packet) (old new : EndState) : Type 0 where
  pub connects : total connects (there ++ new.out) ≡ total connects there
  pub peer : peer_of new ≡ peer_of old

offered_in : (there : List Packet) (s : EndState) (m : Message) (standing : Standing)
    → s.talk.standing ≡ standing → Offered there s (offer_in (drained s) standing m)
offered_in there s m Connecting e =
    let none = total-append connects there [] in
    let z = total_none connects in
    record { connects = omega arith; peer = refl }
offered_in there s m (Up peer confirmed) e =
    let tx : Sender = with_frames s.tx (pieces_of m s.piece) in
    let mid : EndState = record (drained s) { tx = tx } in
    let out : List Packet =
    map (piece_packet mid peer) (coming_in s.tx (with_frames s.tx (pieces_of m s.piece))) in
    let more = total-append connects there (map (piece_packet mid peer)
    (coming_in s.tx (with_frames s.tx (pieces_of m s.piece)))) in
    let z = (pieces_alone mid peer
    (coming_in s.tx (with_frames s.tx (pieces_of m s.piece)))).connect in
    record { connects = omega arith; peer = refl }

offered_drained : (there : List Packet) (s : EndState) (m : Message)
    → Offered there s (offer_of (drained s) m)
unfolding offer_of
offered_drained there s m = offered_in there s m s.talk.standing refl

near_offers : (weight : Message → ℕ) (v : LinkState) → KeepsLink v → (m : Message)
    → ((measure weight (near_offered v m)).connecting ≡ (measure weight v).connecting)
    × ((measure weight (near_offered v m)).up ≡ (measure weight v).up)
near_offers weight v k m =
    let o = by_drained_offer (λ t. Offered v.there v.first.end t) v.first.end m k.near.out
    (offered_drained v.there v.first.end m) in
    let c = o.connects in
    let up = ap ends_up o.peer in
    (omega arith, omega arith)

offered : (weight : Message → ℕ) (to : Side) (m : Message) (v : LinkState) → KeepsLink v
    → ((measure weight (offered_to to m v)).connecting ≡ (measure weight v).connecting)
    × ((measure weight (offered_to to m v)).up ≡ (measure weight v).up)
offered weight First m v k = near_offers weight v k m
offered weight Second m v k =
    let h = near_offers weight (turned v) (seen_keeps Second v k) m in
    let c = h.0 in
    let up = h.1 in
    (omega arith, omega arith)

is_due : (weight : Message → ℕ) (to : Side) (m : Message) (v : LinkState)
    → IsSome (peer_of (half_of to v).end) → IsMessage m → KeepsLink v
    → (measure weight (offered_to to m v)).due ≤ (measure weight v).due + weight m
is_due weight First m v up is k =
    let w : LinkState = offered_to First m v in
    let same = events_tell.offer_other First m v in
    let more = offered_due weight v.first w.first v.second m
    (events_tell.offer First m v up is k) in
    let were = ap (λ b. both_due weight w.first b) same in
    omega arith
is_due weight Second m v up is k =
    let w : LinkState = offered_to Second m v in
    let same = events_tell.offer_other Second m v in
    let more = offered_due weight v.second w.second v.first m
    (events_tell.offer Second m v up is k) in
    let were = ap (λ b. both_due weight w.second b) same in
    omega arith

-- ---- so not more than so many come

-- how far a link is from it, where the messages weigh nothing
abbrev plain : LinkState → Measure
plain v = measure (λ m. 0) v

-- not more than so many packets come
abbrev IsBounded : LinkState → Type 0
IsBounded v = (bound : ℕ) × ((sides : List Side) → AreInFlight v sides → length sides ≤ bound)

-- the packets that come after one from this side, where there is one
abbrev IsBoundedFrom : LinkState → Side → Type 0
IsBoundedFrom v from =
    (bound : ℕ) × ((sides : List Side) → 0 < length (flight_from from v)
    → AreInFlight (delivered from 0 false v) sides → length sides ≤ bound)

some_or_none : (n : ℕ) → (0 < n) ⊎ (n ≤ 0)
some_or_none n = grind arith

module _ (v : LinkState) (k : KeepsLink v)
    (rest : (w : LinkState) → KeepsLink w → Falls (plain w) (plain v) → IsBounded w) where
  bounded_from : (from : Side) → IsBoundedFrom v from
  bounded_from from =
      elim (some_or_none (length (flight_from from v))) [
        | inl some ↦
            let after = rest (delivered from 0 false v) (events_keep.delivered from 0 false v k)
            (falls (λ m. 0) from 0 v k some) in
            (after.0, λ sides h ends. after.1 sides ends)
        | inr none ↦ (0, λ sides h ends. absurd (omega arith))
      ]

  bounded_by : (first : IsBoundedFrom v First) (second : IsBoundedFrom v Second)
      → (sides : List Side) → AreInFlight v sides → length sides ≤ 1 + first.0 + second.0
  bounded_by first second [] h = omega arith
  bounded_by first second (First ∷ sides) h =
      let upto = first.1 sides h.0 h.1 in
      omega arith
  bounded_by first second (Second ∷ sides) h =
      let upto = second.1 sides h.0 h.1 in
      omega arith

  bounded_after : IsBounded v
  bounded_after =
      let first = bounded_from First in
      let second = bounded_from Second in
      (1 + first.0 + second.0, bounded_by first second)

bounded : (v : LinkState) → KeepsLink v → IsBounded v
bounded v k =
    falls_inducts (λ m. (w : LinkState) → KeepsLink w → plain w ≡ m → IsBounded w)
    (λ m rest w keeps is.
    bounded_after w keeps (λ x holds falls.
    rest (plain x) (subst (Falls (plain x)) is falls) x holds refl))
    (plain v) v k refl

-- ---- and after some of them nothing is in flight

abbrev IsEmptied : LinkState → Type 0
IsEmptied v = (sides : List Side) × AreInFlight v sides × IsEmpty (come_all v sides)

module _ (v : LinkState) (k : KeepsLink v)
    (rest : (w : LinkState) → KeepsLink w → Falls (plain w) (plain v) → IsEmptied w) where
  comes_first : (from : Side) → 0 < length (flight_from from v) → IsEmptied v
  comes_first from some =
      let after = rest (delivered from 0 false v) (events_keep.delivered from 0 false v k)
      (falls (λ m. 0) from 0 v k some) in
      (from ∷ after.0, (some, after.1), after.2)

  emptied_after : IsEmptied v
  emptied_after =
      elim (some_or_none (length v.there)) [
        | inl some ↦ comes_first First some
        | inr there ↦ elim (some_or_none (length v.back)) [
          | inl some ↦ comes_first Second some
          | inr back ↦ ([], tt, (no_length v.there (omega arith), no_length v.back (omega arith)))
        ]
      ]

emptied : (v : LinkState) → KeepsLink v → IsEmptied v
emptied v k =
    falls_inducts (λ m. (w : LinkState) → KeepsLink w → plain w ≡ m → IsEmptied w)
    (λ m rest w keeps is.
    emptied_after w keeps (λ x holds falls.
    rest (plain x) (subst (Falls (plain x)) is falls) x holds refl))
    (plain v) v k refl

-- ---- all of it

pub deliveries_end : (weight : Message → ℕ) → DeliveriesEnd weight
deliveries_end weight =
    record {
      falls = falls weight;
      goes_up = goes_up weight;
      handed = handed weight;
      offered = offered weight;
      is_due = is_due weight;
      bounded = bounded;
      emptied = emptied;
    }
