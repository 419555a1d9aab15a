-- What is promised follows from what holds.
use Rattle.std.proofs.Common.{◌≡◌, ◌≢◌, ◌⊎◌, ◌+◌, ◌<◌, ◌≤◌, ◌||◌, not, ℕ, eqb, Bool, true, false}
use Rattle.std.proofs.Common.{Option, Some, None, List, [], ◌∷◌, ◌++◌, length, take, drop, refl}
use Rattle.std.proofs.Common.{sym, ap, subst, ◌∙◌, arith, inl, inr, ne_eqb, append-nil}
use Rattle.std.proofs.Common.{length-append, length-drop, length-take}
use Rattle.std.specs.Option.{ForSome}
use Rattle.std.proofs.lemmas.Bool.Decides.{eqb_tells, nat_tests}
use Rattle.std.proofs.lemmas.List.Elements.{All-weaker}
use Rattle.linx_base.specs.Fronts.{IsFront}
use Rattle.linx_base.specs.declared.identity.Session.{Session}
use Rattle.linx_base.specs.declared.frame.Frame.{Frame}
use Rattle.linx_base.specs.declared.frame.Message.{Message}
use Rattle.ethcm_headers.specs.declared.packets.Packet.{Packet}
use Rattle.ethcm_session.specs.declared.standing.Standing.{Standing}
use Rattle.ethcm_session.specs.declared.standing.Standing.TheVariants.{Connecting, Up}
use Rattle.ethcm_session.specs.Table.{is_confirmed_in, standing_peer}
use Rattle.fragmenter.specs.Pieces.{pieces_of}
use Rattle.fragmenter.specs.Streams.{BeginsNext, frames_of}
use Rattle.ethcm_end.specs.States.{EndState, has_work_in, peer_of}
use Rattle.carrier.specs.Records.{Entry, HalfState, entries, handed_at, has_session}
use Rattle.carrier.specs.Records.{is_pair, mine_of, names, offered_at, peer_at, source}
use Rattle.carrier.specs.Events.{LinkState}
use Rattle.carrier.specs.Keeping.{HandedFronts, IsFlying, KeepsHalf, KeepsLink, OfferedMessages}
use Rattle.carrier.specs.Keeping.{PeersUpTo, Receives}
use Rattle.carrier.specs.Laws.{ArePaired, CarrierPromises, HalfPromises, IsComplete}
use Rattle.carrier.proofs.Fronts.{either, frames-append, front_of_nil}
use Rattle.carrier.proofs.Joining.{handed_front, joins_taken}
use Rattle.carrier.proofs.Lookups.{own_offered, own_pair, session_upto, source_messages}
use Rattle.carrier.proofs.Lookups.{source_paired}

-- ---- what was handed up in a session

-- it is a front of what was offered to it
fronts_at : (x : ℕ) (others es : List Entry) → HandedFronts others es
    → IsFront (handed_at x es) (source others x (peer_at x es))
fronts_at x others [] h = ([], refl)
fronts_at x others (e ∷ es) h =
    elim (eqb_tells e.number.0 x) [
      | inl same ↦
          rw same.0 (subst (λ n. IsFront e.handed (source others n e.peer)) same.1 h.0)
      | inr other ↦ rw other.0 (fronts_at x others es h.1)
    ]

-- and nothing where its peer is none, or doesn't have it as its peer
nothing_without : (x : ℕ) (others es : List Entry) → HandedFronts others es
    → peer_at x es ≡ None → handed_at x es ≡ []
nothing_without x others es h none =
    let front : IsFront (handed_at x es) (source others x None) =
    rw none at (fronts_at x others es h) in
    front_of_nil (handed_at x es) front.0 front.1

nothing_unpaired : (x : ℕ) (y : Session) (others es : List Entry) → HandedFronts others es
    → peer_at x es ≡ Some y → is_pair x y.0 others ≡ false → handed_at x es ≡ []
nothing_unpaired x y others es h p e =
    let front : IsFront (handed_at x es) (source others x (Some y)) =
    rw p at (fronts_at x others es h) in
    let none : IsFront (handed_at x es) [] = rw e at front in
    front_of_nil (handed_at x es) none.0 none.1

-- a session of one number alone is named
other_pair : (x w : ℕ) (peer : Option Session) → names x peer ≡ true → x ≢ w
    → names w peer ≡ false
other_pair x w None e h = refl
other_pair x w (Some z) e h =
    let same : z.0 ≡ x = grind (arith, nat_tests) in
    ne_eqb z.0 w (λ q. h (sym same ∙ q))

paired : (x : ℕ) (others es : List Entry) → HandedFronts others es
    → handed_at x es ≢ [] → (peer : Option Session) → peer_at x es ≡ peer
    → (y : Session) × ArePaired x y es others
paired x others es h some None e = absurd (some (nothing_without x others es h e))
paired x others es h some (Some y) e =
    elim (either (is_pair x y.0 others)) [
      | inl pair ↦ (y, (e, pair))
      | inr other ↦ absurd (some (nothing_unpaired x y others es h e other))
    ]

not_twice : (x w : ℕ) (y : Session) (others es : List Entry) → HandedFronts others es
    → peer_at x es ≡ Some y → peer_at w es ≡ Some y → x ≢ w
    → (handed_at x es ≡ []) ⊎ (handed_at w es ≡ [])
not_twice x w y others es h p q apart =
    elim (either (is_pair x y.0 others)) [
      | inr other ↦ inl (nothing_unpaired x y others es h p other)
      | inl pair ↦ inr (nothing_unpaired w y others es h q
          (other_pair x w (peer_at y.0 others) pair apart))
    ]

-- ---- a side

messages_of : (piece : ℕ) (a b : HalfState) (there : List Packet) → KeepsHalf piece a b there
    → OfferedMessages (entries a)
messages_of piece a b there k = (k.book.messages, k.book.past_messages)

pub side_promises : (piece : ℕ) (a b : HalfState) (there back : List Packet) → 1 ≤ piece
    → KeepsHalf piece a b there → KeepsHalf piece b a back → HalfPromises a b there
side_promises piece a b there back sized near far =
    let front : IsFront a.handed (source (entries b) (mine_of a) (peer_of a.end)) =
    handed_front piece (source (entries b) (mine_of a) (peer_of a.end)) a.handed a.end.rx
    a.end.held sized (source_messages (entries b) (mine_of a) (peer_of a.end)
    (messages_of piece b a back far)) near.receives in
    let fronts : HandedFronts (entries b) (entries a) = (front, near.book.handed) in
    record {
      fronts = fronts;
      sessions_rise = near.book.falls;
      peers_held = (near.book.peer_held, near.book.past_held);
      peers_rise = (near.book.peer_rises, near.book.past_rises);
      paired = λ x some. paired x (entries b) (entries a) fronts some (peer_at x (entries a)) refl;
      not_twice = λ x w y p q apart.
          not_twice x w y (entries b) (entries a) fronts p q apart;
      recorded = All-weaker (IsFlying piece a b) (λ p. has_session p.src.0 (entries a) ≡ true)
          (λ p f. f.from) there near.packets;
    }

pub promises : (v : LinkState) → KeepsLink v → CarrierPromises v
promises v k =
    let sized = k.sized in
    record {
      first = side_promises k.piece v.first v.second v.there v.back (omega arith) k.near k.far;
      second = side_promises k.piece v.second v.first v.back v.there (omega arith) k.far k.near;
    }

-- ---- up with each other

-- a peer that is named is at most n
named_upto : (n x : ℕ) (peer : Option Session) → ForSome peer (λ y. y.0 ≤ n)
    → names x peer ≡ true → x ≤ n
named_upto n x None h e = absurd (grind arith)
named_upto n x (Some y) h e =
    let upto = h y refl in
    let same : y.0 ≡ x = grind (arith, nat_tests) in
    omega arith

-- a pair among sessions whose peers are at most n
pair_upto : (n x y : ℕ) (es : List Entry) → PeersUpTo n es → is_pair x y es ≡ true → x ≤ n
pair_upto n x y [] h e = absurd (grind arith)
pair_upto n x y (f ∷ es) h e =
    elim (eqb_tells f.number.0 y) [
      | inl same ↦ named_upto n x f.peer h.0 (rw same.0 at e)
      | inr other ↦ pair_upto n x y es h.1 (rw other.0 at e)
    ]

-- what is paired with the present session is its peer
own_named : (a : HalfState) (n : ℕ) (y : Session) → peer_of a.end ≡ Some y
    → is_pair n (mine_of a) (entries a) ≡ true → y.0 ≡ n
own_named a n y p e =
    elim (eqb_tells (mine_of a) (mine_of a)) [
      | inl same ↦
          let at : names n (peer_of a.end) ≡ true = rw same.0 at e in
          let named : names n (Some y) ≡ true = rw p at at in
          grind (arith, nat_tests)
      | inr other ↦ absurd (other.1 refl)
    ]

-- a pair of an earlier session
past_pair : (a : HalfState) (x y : ℕ) → y < mine_of a → is_pair x y (entries a) ≡ true
    → is_pair x y a.past ≡ true
past_pair a x y h e =
    let other : eqb (mine_of a) y ≡ false = ne_eqb (mine_of a) y (λ q. omega arith) in
    rw other at e

-- two sides that are up, each paired with its peer, are up with each other
up_with_each_other : (piece : ℕ) (a b : HalfState) (there back : List Packet) (y x : Session)
    → KeepsHalf piece a b there → KeepsHalf piece b a back → peer_of a.end ≡ Some y
    → peer_of b.end ≡ Some x → is_pair (mine_of a) y.0 (entries b) ≡ true
    → is_pair (mine_of b) x.0 (entries a) ≡ true
    → (y.0 ≡ mine_of b) × (x.0 ≡ mine_of a)
up_with_each_other piece a b there back y x near far p q pair_there pair_back =
    let up = session_upto y.0 b far.book.falls (near.book.peer_held y p) in
    let xup = session_upto x.0 a near.book.falls (far.book.peer_held x q) in
    elim (eqb_tells y.0 (mine_of b)) [
      | inl same ↦
          let n : y.0 ≡ mine_of b = same.1 in (
            n,
            own_named b (mine_of a) x q
                (subst (λ m. is_pair (mine_of a) m (entries b) ≡ true) n pair_there),
          )
      | inr other ↦
          let below : y.0 < mine_of b = (let no = other.1 in omega arith) in
          let le : mine_of a ≤ x.0 =
          pair_upto x.0 (mine_of a) y.0 b.past (far.book.peer_rises x q)
          (past_pair b (mine_of a) y.0 below pair_there) in
          let n : x.0 ≡ mine_of a = omega arith in
          absurd (other.1 (own_named a (mine_of b) y p
          (subst (λ m. is_pair (mine_of b) m (entries a) ≡ true) n pair_back)))
    ]

-- ---- all that was offered was handed up

-- where as many frames were taken as were offered, no message is left
none_later : (piece : ℕ) (all whole later : List Message) (part : List Frame)
    → all ≡ whole ++ later
    → length (frames_of piece all) ≤ length (frames_of piece whole) + length part
    → BeginsNext piece later part → later ≡ []
none_later piece all whole [] part is enough begins = refl
none_later piece all whole (m ∷ later) part is enough begins =
    let total : length (frames_of piece all)
    ≡ length (frames_of piece whole) + length (frames_of piece (m ∷ later)) =
    ap (λ ms. length (frames_of piece ms)) is
    ∙ ap length (frames-append piece whole (m ∷ later))
    ∙ length-append (frames_of piece whole) (frames_of piece (m ∷ later)) in
    let rest : length (frames_of piece (m ∷ later))
    ≡ length (pieces_of m piece) + length (frames_of piece later) =
    length-append (pieces_of m piece) (frames_of piece later) in
    let cut : length (pieces_of m piece) ≡ length part + length (begins.0 ∷ begins.1) =
    ap length begins.2 ∙ length-append part (begins.0 ∷ begins.1) in
    absurd (omega arith)

-- what is acknowledged whole was handed up
handed_all : (piece : ℕ) (a b : HalfState) (there back : List Packet) (y x : Session)
    → 1 ≤ piece → KeepsHalf piece a b there → KeepsHalf piece b a back → peer_of a.end ≡ Some y
    → peer_of b.end ≡ Some x → y.0 ≡ mine_of b → x.0 ≡ mine_of a → a.end.tx.frames ≡ []
    → b.handed ≡ a.offered
handed_all piece a b there back y x sized near far p q n m none =
    let own : is_pair (mine_of b) (mine_of a) (entries a) ≡ true =
    subst (λ i. is_pair i (mine_of a) (entries a) ≡ true) n (own_pair a y p) in
    let pair : is_pair (mine_of b) x.0 (entries a) ≡ true =
    subst (λ i. is_pair (mine_of b) i (entries a) ≡ true) (sym m) own in
    let from : source (entries a) (mine_of b) (peer_of b.end) ≡ a.offered =
    source_paired (entries a) (mine_of b) x (peer_of b.end) q pair
    ∙ ap (λ k. offered_at k (entries a)) m ∙ own_offered a in
    let all : List Frame = frames_of piece a.offered in
    let received : Receives piece a.offered b.handed b.end.rx b.end.held =
    subst (λ s. Receives piece s b.handed b.end.rx b.end.held) from far.receives in
    let left : length (drop a.end.tx.base all) ≡ 0 = ap length (sym near.sends.1 ∙ none) in
    let within = near.sends.0 in
    let taken = near.bound.base_taken y p n in
    let upto = received.within in
    let joins = joins_taken piece a.offered b.handed b.end.rx b.end.held sized near.book.messages
    received in
    let count : length (take b.end.rx.expected all)
    ≡ length (frames_of piece joins.whole) + length joins.part =
    ap length joins.frames ∙ length-append (frames_of piece joins.whole) joins.part in
    let over : joins.later ≡ [] =
    none_later piece a.offered joins.whole joins.later joins.part joins.in_order
    (omega (arith, length-drop a.end.tx.base all, length-take b.end.rx.expected all))
    joins.begins_next in
    received.handed_up ∙ joins.answered
    ∙ sym (joins.in_order ∙ ap (λ l. joins.whole ++ l) over ∙ append-nil joins.whole)

-- ---- quiet

confirmed_up : (standing : Standing) → is_confirmed_in standing ≡ true
    → (y : Session) × (standing_peer standing ≡ Some y)
confirmed_up Connecting e = absurd (grind arith)
confirmed_up (Up y confirmed) e = (y, refl)

no_frames : (frames : List Frame) → eqb (length frames) 0 ≡ true → frames ≡ []
no_frames [] e = refl
no_frames (f ∷ fs) e =
    let none : length (f ∷ fs) ≡ 0 = grind (arith, nat_tests) in
    absurd (omega arith)

-- an end without work is up and confirmed, and nothing is unacknowledged
record IsIdle (s : EndState) : Type 0 where
  pub peer : Session
  pub up : peer_of s ≡ Some peer
  pub confirmed : is_confirmed_in s.talk.standing ≡ true
  pub none_left : s.tx.frames ≡ []

idle_by : (confirmed none : Bool) → (not confirmed || not none) ≡ false
    → (confirmed ≡ true) × (none ≡ true)
idle_by true true e = (refl, refl)
idle_by true false e = absurd cc
idle_by false none e = absurd cc

idle : (s : EndState) → has_work_in s ≡ false → IsIdle s
idle s e =
    let both = idle_by (is_confirmed_in s.talk.standing) (eqb (length s.tx.frames) 0) e in
    let up = confirmed_up s.talk.standing both.0 in
    record {
      peer = up.0;
      up = up.1;
      confirmed = both.0;
      none_left = no_frames s.tx.frames both.1;
    }

-- a session is its number
session_is : (x y : Session) → x.0 ≡ y.0 → x ≡ y
session_is x y e = ap (λ n. record { 0 = n }) e

pub quiet_is_complete : (v : LinkState) → KeepsLink v → has_work_in v.first.end ≡ false
    → has_work_in v.second.end ≡ false → IsComplete v
quiet_is_complete v k first second =
    let a : HalfState = v.first in
    let b : HalfState = v.second in
    let sized = k.sized in
    let near = idle v.first.end first in
    let far = idle v.second.end second in
    let each = up_with_each_other k.piece v.first v.second v.there v.back near.peer far.peer k.near
    k.far near.up far.up (k.near.bound.confirmed near.peer near.up near.confirmed)
    (k.far.bound.confirmed far.peer far.up far.confirmed) in
    record {
      first_up = near.up ∙ ap (λ s. Some s) (session_is near.peer v.second.end.talk.mine each.0);
      second_up = far.up ∙ ap (λ s. Some s) (session_is far.peer v.first.end.talk.mine each.1);
      there = handed_all k.piece v.first v.second v.there v.back near.peer far.peer (omega arith)
          k.near k.far near.up far.up each.0 each.1 near.none_left;
      back = handed_all k.piece v.second v.first v.back v.there far.peer near.peer (omega arith)
          k.far k.near far.up near.up each.1 each.0 far.none_left;
    }
