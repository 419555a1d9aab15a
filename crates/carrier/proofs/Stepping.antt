-- What a packet, a tick, an offer and a restart make of one side keeps what holds of it, and of the
-- packets in flight from it.
use Rattle.std.proofs.Common.{◌≡◌, ◌⊎◌, ◌+◌, ◌<◌, ◌≤◌, ℕ, suc, ltb, Bool, true, false, Option, Some}
use Rattle.std.proofs.Common.{None, List, [], ◌∷◌, ◌++◌, All, length, refl, sym, ap, subst, ◌∙◌}
use Rattle.std.proofs.Common.{arith, inl, inr, if◌then◌else◌}
use Rattle.std.specs.Option.{ForSome}
use Rattle.std.proofs.lemmas.List.Elements.{All-append, All-cons, All-head, All-nil, All-same}
use Rattle.std.proofs.lemmas.List.Elements.{All-filter, All-tail}
use Rattle.linx_base.specs.Fronts.{IsFront}
use Rattle.linx_base.specs.declared.identity.Session.{Session}
use Rattle.linx_base.specs.declared.frame.Frame.{Frame}
use Rattle.linx_base.specs.declared.frame.Message.{Message}
use Rattle.linx_base.specs.declared.frame.SentFrame.{SentFrame}
use Rattle.linx_base.specs.Frames.{IsMessage}
use Rattle.ethcm_headers.specs.declared.packets.Packet.{Packet}
use Rattle.ethcm_session.specs.Table.{is_confirmed_in}
use Rattle.ethcm_window.specs.Sending.{Sender, numbered_from, sent_end, sent_frame}
use Rattle.ethcm_window.specs.Receiving.{Receiver, early_limit, keeps_number, kept_above}
use Rattle.ethcm_window.specs.Receiving.{kept_below, kept_early, after_taking}
use Rattle.fragmenter.specs.Joining.{Begun}
use Rattle.fragmenter.specs.Streams.{frames_of}
use Rattle.ethcm_end.specs.States.{EndState, peer_of}
use Rattle.ethcm_end.specs.Rules.{take_behind}
use Rattle.ethcm_end.specs.Sessions.{GoesOn, GoesUp, IsAnew, KeepsSizes}
use Rattle.ethcm_end.proofs.Taking.{takes_in_turn}
use Rattle.carrier.specs.Records.{HalfState, entries, has_session, is_pair, mine_of, names, source}
use Rattle.carrier.specs.Events.{drained}
use Rattle.carrier.specs.Keeping.{Bound, HoldsRest, IsFlying, KeepsHalf, KeptBelow, OfferedMessages}
use Rattle.carrier.specs.Keeping.{PeersUpTo, Receives, WasSent}
use Rattle.carrier.proofs.Fronts.{front_refl}
use Rattle.carrier.proofs.Growing.{IsLater, later_next, later_on, packets_sender}
use Rattle.carrier.proofs.Joining.{handed_front, receives_anew, takes_nothing}
use Rattle.carrier.proofs.Lookups.{at_peer, source_messages}

-- ---- the numbers that are kept and taken

choose : {X : Type 0} (P : X → Type 0) (b : Bool) (x y : X) → P x → P y → P (if b then x else y)
choose P true x y h k = h
choose P false x y h k = k

pub early_below : (n expected : ℕ) (kept : List SentFrame) (s : SentFrame) → KeptBelow n kept
    → s.number < n → KeptBelow n (kept_early expected kept s)
early_below n expected kept s all here =
    let P : SentFrame → Type 0 = λ t. t.number < n in
    let below : All P (kept_below s.number kept) =
    All-filter (λ t. ltb t.number s.number) P kept all in
    let above : All P (kept_above s.number kept) =
    All-filter (λ t. ltb s.number t.number) P kept all in
    let among : All P (kept_below s.number kept ++ s ∷ kept_above s.number kept) =
    All-append P (kept_below s.number kept) (s ∷ kept_above s.number kept) below
    (All-cons P s (kept_above s.number kept) here above) in
    choose (All P) (ltb s.number (expected + early_limit)) _ kept
    (choose (All P) (keeps_number s.number kept) kept _ all among) all

-- frames numbered from k on, each below n, end no later than n
numbered_end : (n k : ℕ) (frames : List Frame) (rest : List SentFrame) → k ≤ n
    → KeptBelow n (numbered_from k frames ++ rest)
    → (k + length frames ≤ n) × KeptBelow n rest
unfolding numbered_from
numbered_end n k [] rest h all = (omega arith, all)
numbered_end n k (f ∷ fs) rest h all =
    let P : SentFrame → Type 0 = λ s. s.number < n in
    let here : k < n = All-head P (sent_frame k f) (numbered_from (suc k) fs ++ rest) all in
    let more = numbered_end n (suc k) fs rest (omega arith)
    (All-tail P (sent_frame k f) (numbered_from (suc k) fs ++ rest) all) in
    let end = more.0 in
    (omega arith, more.1)

-- what is taken behind a frame was sent, where that was
pub taken_sent : (rx : Receiver) (held : Option Begun) (frame : Frame) (tx : Sender) → WasSent rx tx
    → rx.expected < sent_end tx
    → WasSent (take_behind (after_taking rx) held frame).rx tx
taken_sent rx held frame tx was here =
    let P : SentFrame → Type 0 = λ s. s.number < sent_end tx in
    let turn = takes_in_turn rx held frame in
    let above : All P (kept_above rx.expected rx.kept) =
    All-filter (λ s. ltb rx.expected s.number) P rx.kept was.kept in
    let ends = numbered_end (sent_end tx) (rx.expected + 1)
    (takes_in_turn rx held frame).behind (take_behind (after_taking rx) held frame).rx.kept
    (omega arith) (All-same P _ _ (sym turn.numbers) above) in
    let last = ends.0 in
    let expected = turn.expected in
    record { taken = omega arith; kept = ends.1 }

-- ---- a side and what it sends

-- side a became c
pub record Turns (piece : ℕ) (a c b : HalfState) (there : List Packet) : Type 0 where
  pub later : IsLater a c
  pub keeps : KeepsHalf piece c b there

-- with these packets in flight
pub keeps_with : (piece : ℕ) (a b : HalfState) (there left : List Packet) → KeepsHalf piece a b there
    → All (IsFlying piece a b) left → KeepsHalf piece a b left
keeps_with piece a b there left k all =
    record {
      book = k.book;
      cut = k.cut;
      window = k.window;
      sends = k.sends;
      receives = k.receives;
      bound = k.bound;
      out = k.out;
      packets = all;
    }

-- these packets are in flight behind the others
pub keeps_put : (piece : ℕ) (a b : HalfState) (there out : List Packet) → KeepsHalf piece a b there
    → All (IsFlying piece a b) out → KeepsHalf piece a b (there ++ out)
keeps_put piece a b there out k h =
    keeps_with piece a b there (there ++ out) k
    (All-append (IsFlying piece a b) there out k.packets h)

-- with no packets in flight
pub keeps_alone : (piece : ℕ) (a b : HalfState) (there : List Packet) → KeepsHalf piece a b there
    → KeepsHalf piece a b []
keeps_alone piece a b there k =
    keeps_with piece a b there [] k (All-nil (IsFlying piece a b))

-- ---- the session goes on

-- the side in its session, with this end, and these messages
abbrev pub going : HalfState → EndState → List Message → List Message → HalfState
going a new offered handed =
    record { end = drained new; offered = offered; handed = handed; past = a.past }

-- what stands of the other side's session to a session that goes on
abbrev pub BoundAs : HalfState → EndState → HalfState → Type 0
BoundAs a new b = Bound (mine_of a) (peer_of a.end) (drained new) b

-- what is known of a session that goes on
pub record GoesAs (piece : ℕ) (a : HalfState) (new : EndState) (b : HalfState)
    (offered handed : List Message) : Type 0 where
  pub goes : GoesOn a.end new
  pub sizes : KeepsSizes a.end new
  pub front : IsFront a.offered offered
  pub messages : All IsMessage offered
  pub unpaired : peer_of a.end ≡ None → offered ≡ []
  pub sends : HoldsRest (frames_of piece offered) new.tx
  pub receives :
      Receives piece (source (entries b) (mine_of a) (peer_of a.end)) handed new.rx new.held
  pub bound : BoundAs a new b
  pub sent : sent_end a.end.tx ≤ sent_end new.tx

module _ (piece : ℕ) (a b : HalfState) (there : List Packet) (k : KeepsHalf piece a b there)
    (new : EndState) where
  pub turns_on : (offered handed : List Message) → GoesAs piece a new b offered handed
      → Turns piece a (going a new offered handed) b there
  turns_on offered handed g =
      let number : new.talk.mine.0 ≡ mine_of a = ap (λ (s : Session). s.0) g.goes.session in
      let peer : peer_of new ≡ peer_of a.end = g.goes.peer in
      let window = k.window in
      let same = g.sizes.window in
      let later : IsLater a (going a new offered handed) =
      later_on a (going a new offered handed) k.book.falls number refl
      (λ x h. rw peer h) g.front g.goes.expected (inl g.sent) in
      record {
        later = later;
        keeps = record {
          book = rw (number, peer) (record {
            known = k.book.known;
            falls = k.book.falls;
            peer_held = k.book.peer_held;
            past_held = k.book.past_held;
            peer_rises = k.book.peer_rises;
            past_rises = k.book.past_rises;
            messages = g.messages;
            past_messages = k.book.past_messages;
            unpaired = g.unpaired;
            handed = k.book.handed;
          });
          cut = g.sizes.piece ∙ k.cut;
          window = omega arith;
          sends = g.sends;
          receives = rw (number, peer) g.receives;
          bound = subst (λ n. Bound n (peer_of new) (drained new) b) (sym number)
              (subst (λ q. Bound (mine_of a) q (drained new) b) (sym peer) g.bound);
          out = refl;
          packets = packets_sender piece a (going a new offered handed) later b there k.packets;
        };
      }

  -- the confirmation of a session that goes on
  pub confirmed_on : GoesOn a.end new
      → (is_confirmed_in new.talk.standing ≡ true → (new.talk ≡ a.end.talk)
      ⊎ ((y : Session) → peer_of a.end ≡ Some y
      → is_pair (mine_of a) y.0 (entries b) ≡ true))
      → ForSome (peer_of a.end) (λ y. is_confirmed_in new.talk.standing ≡ true
      → is_pair (mine_of a) y.0 (entries b) ≡ true)
  confirmed_on goes by = λ y e c.
      elim (by c) [
        | inl same ↦
            let before : is_confirmed_in a.end.talk.standing ≡ true =
            subst (λ t. is_confirmed_in t.standing ≡ true) same c in
            k.bound.confirmed y e before
        | inr pair ↦ pair y e
      ]

-- ---- the session goes up

-- with this session of the other side
pub record GoesUpAs (a : HalfState) (new : EndState) (b : HalfState) (y : Session) : Type 0 where
  pub goes : GoesUp a.end new y
  pub sizes : KeepsSizes a.end new
  pub known : has_session y.0 (entries b) ≡ true
  pub upto : PeersUpTo y.0 a.past
  pub pair : is_confirmed_in new.talk.standing ≡ true
      → is_pair (mine_of a) y.0 (entries b) ≡ true

pub turns_up : (piece : ℕ) (a b : HalfState) (there : List Packet) → KeepsHalf piece a b there
    → (new : EndState) (y : Session) → GoesUpAs a new b y
    → Turns piece a (going a new a.offered a.handed) b there
turns_up piece a b there k new y g =
    let c : HalfState = going a new a.offered a.handed in
    let number : new.talk.mine.0 ≡ mine_of a = ap (λ (s : Session). s.0) g.goes.session in
    let peer : peer_of new ≡ Some y = g.goes.peer in
    let connecting : peer_of a.end ≡ None = g.goes.was_connecting in
    let none_offered : a.offered ≡ [] = k.book.unpaired connecting in
    let nothing = takes_nothing piece (source (entries b) (mine_of a) (peer_of a.end)) a.handed
    a.end.rx a.end.held (ap (source (entries b) (mine_of a)) connecting) k.receives in
    let was = nothing.expected in
    let anew : IsAnew new = g.goes.anew in
    let base : new.tx.base ≡ 0 = ap (λ (tx : Sender). tx.base) anew.sends in
    let expected : new.rx.expected ≡ 0 = ap (λ (rx : Receiver). rx.expected) anew.receives in
    let window = k.window in
    let same = g.sizes.window in
    let later : IsLater a c =
    later_on a c k.book.falls number refl
    (λ x h. absurd (let q : names x None ≡ true = rw connecting at h in grind arith))
    (front_refl a.offered) (omega arith) (inr connecting) in
    let sends : HoldsRest (frames_of piece []) new.tx =
    subst (HoldsRest (frames_of piece [])) (sym anew.sends) (omega arith, refl) in
    let anew_received
    : Receives piece (source (entries b) (mine_of a) (Some y)) [] new.rx new.held =
    subst (λ h. Receives piece (source (entries b) (mine_of a) (Some y)) [] new.rx h)
    (sym anew.outside)
    (subst (λ rx. Receives piece (source (entries b) (mine_of a) (Some y)) [] rx None)
    (sym anew.receives) (receives_anew piece (source (entries b) (mine_of a) (Some y)))) in
    record {
      later = later;
      keeps = record {
        book = rw (number, peer) (record {
          known = k.book.known;
          falls = k.book.falls;
          peer_held = at_peer (λ z. has_session z.0 (entries b) ≡ true) y (Some y) refl g.known;
          past_held = k.book.past_held;
          peer_rises = at_peer (λ z. PeersUpTo z.0 a.past) y (Some y) refl g.upto;
          past_rises = k.book.past_rises;
          messages = k.book.messages;
          past_messages = k.book.past_messages;
          unpaired = λ q. none_offered;
          handed = k.book.handed;
        });
        cut = g.sizes.piece ∙ k.cut;
        window = omega arith;
        sends = subst (λ l. HoldsRest (frames_of piece l) new.tx) (sym none_offered) sends;
        receives = rw (number, peer)
            (subst (λ l. Receives piece (source (entries b) (mine_of a) (Some y)) l new.rx new.held)
            (sym nothing.handed_up) anew_received);
        bound = rw (number, peer) (record {
          base_taken = λ z q h. omega arith;
          base_none = λ z q h. base;
          confirmed = at_peer (λ z. is_confirmed_in new.talk.standing ≡ true
              → is_pair (mine_of a) z.0 (entries b) ≡ true) y (Some y) refl g.pair;
          was_sent = λ z q h.
              record {
                taken = omega arith;
                kept = subst (λ rx. KeptBelow (sent_end b.end.tx) rx.kept) (sym anew.receives)
                    (All-nil (λ s. s.number < sent_end b.end.tx));
              };
        });
        out = refl;
        packets = packets_sender piece a c later b there k.packets;
      };
    }

-- ---- the next session

-- the end has a later session, which is connecting
pub record GoesNextAs (a : HalfState) (new : EndState) : Type 0 where
  pub greater : mine_of a < new.talk.mine.0
  pub connecting : peer_of new ≡ None
  pub anew : IsAnew new
  pub sizes : KeepsSizes a.end new

abbrev pub next : HalfState → EndState → HalfState
next a new = record { end = drained new; offered = []; handed = []; past = entries a }

pub turns_next : (piece : ℕ) (a b : HalfState) (there : List Packet) → KeepsHalf piece a b there
    → 1 ≤ piece → OfferedMessages (entries b) → (new : EndState) → GoesNextAs a new
    → Turns piece a (next a new) b there
turns_next piece a b there k sized messages new g =
    let c : HalfState = next a new in
    let known = k.book.known in
    let greater = g.greater in
    let connecting : peer_of new ≡ None = g.connecting in
    let anew : IsAnew new = g.anew in
    let window = k.window in
    let same = g.sizes.window in
    let later : IsLater a c = later_next a c k.book.falls greater refl in
    let front : IsFront a.handed (source (entries b) (mine_of a) (peer_of a.end)) =
    handed_front piece (source (entries b) (mine_of a) (peer_of a.end)) a.handed a.end.rx
    a.end.held sized (source_messages (entries b) (mine_of a) (peer_of a.end) messages)
    k.receives in
    record {
      later = later;
      keeps = record {
        book = rw connecting (record {
          known = omega arith;
          falls = (greater, k.book.falls);
          peer_held = λ z q. absurd (grind arith);
          past_held = (k.book.peer_held, k.book.past_held);
          peer_rises = λ z q. absurd (grind arith);
          past_rises = (k.book.peer_rises, k.book.past_rises);
          messages = All-nil IsMessage;
          past_messages = (k.book.messages, k.book.past_messages);
          unpaired = λ q. refl;
          handed = (front, k.book.handed);
        });
        cut = g.sizes.piece ∙ k.cut;
        window = omega arith;
        sends = subst (HoldsRest (frames_of piece [])) (sym anew.sends) (omega arith, refl);
        receives = rw connecting
            (subst (λ h. Receives piece [] [] new.rx h) (sym anew.outside)
            (subst (λ rx. Receives piece [] [] rx None) (sym anew.receives)
            (receives_anew piece [])));
        bound = rw connecting (record {
          base_taken = λ z q. absurd (grind arith);
          base_none = λ z q. absurd (grind arith);
          confirmed = λ z q. absurd (grind arith);
          was_sent = λ z q. absurd (grind arith);
        });
        out = refl;
        packets = packets_sender piece a c later b there k.packets;
      };
    }
