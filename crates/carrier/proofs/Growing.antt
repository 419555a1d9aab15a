-- A side goes on: what holds of its packets in flight, and of the other side, stays.
use Rattle.std.proofs.Common.{◌≡◌, ◌⊎◌, ℕ, ◌<◌, ◌≤◌, true, Option, Some, None, List, All, sym}
use Rattle.std.proofs.Common.{subst, arith, inl, inr}
use Rattle.std.specs.Option.{ForSome}
use Rattle.std.proofs.lemmas.List.Elements.{All-weaker}
use Rattle.linx_base.specs.Fronts.{IsFront}
use Rattle.linx_base.specs.declared.identity.Session.{Session}
use Rattle.linx_base.specs.declared.frame.ConnKind.TheVariants as kinds
use Rattle.linx_base.specs.declared.frame.Message.{Message}
use Rattle.linx_base.specs.declared.frame.SentFrame.{SentFrame}
use Rattle.ethcm_headers.specs.declared.packets.Packet.{Packet}
use Rattle.ethcm_headers.specs.declared.packets.Part.{Part}
use Rattle.ethcm_headers.specs.declared.packets.Part.TheVariants.{Conn, Ack, Nack, Piece}
use Rattle.ethcm_window.specs.Sending.{sent_end}
use Rattle.ethcm_end.specs.States.{EndState, peer_of}
use Rattle.carrier.specs.Records.{Entry, HalfState, current, entries, has_session, is_pair}
use Rattle.carrier.specs.Records.{mine_of, names, source}
use Rattle.carrier.specs.Keeping.{AcksTaken, Bound, FallsBelow, IsFlying, IsSaid, KeepsHalf}
use Rattle.carrier.specs.Keeping.{KeepsSessions, KeptBelow, PeersUpTo, Receives, WasSent}
use Rattle.carrier.proofs.Fronts.{either, found_in_front, front_frames}
use Rattle.carrier.proofs.Joining.{receives_grow, takes_nothing}
use Rattle.carrier.proofs.Lookups.{Grows, fronts_grow, grows_new, grows_on, held_grows}
use Rattle.carrier.proofs.Lookups.{own_unpaired, session_upto, source_grows, source_unpaired}

-- ---- a side goes on

-- in its session: it expects no less, and has sent no less, or had no peer
pub record Goes (old new : HalfState) : Type 0 where
  pub mine : mine_of new ≡ mine_of old
  pub past : new.past ≡ old.past
  pub expected : old.end.rx.expected ≤ new.end.rx.expected
  pub sent : (sent_end old.end.tx ≤ sent_end new.end.tx) ⊎ (peer_of old.end ≡ None)

-- in its session, or in a later one
pub record IsLater (old new : HalfState) : Type 0 where
  pub falls : FallsBelow (mine_of old) old.past
  pub grows : Grows (entries old) (entries new)
  pub moves : Goes old new ⊎ (mine_of old < mine_of new)

pub later_upto : (a b : HalfState) → IsLater a b → mine_of a ≤ mine_of b
later_upto a b l =
    elim l.moves [
      | inl same ↦ let e = same.mine in omega arith
      | inr more ↦ omega arith
    ]

module _ (old new : HalfState) (falls : FallsBelow (mine_of old) old.past) where
  -- the session goes on
  pub later_on : mine_of new ≡ mine_of old → new.past ≡ old.past
      → ((x : ℕ) → names x (peer_of old.end) ≡ true → names x (peer_of new.end) ≡ true)
      → IsFront old.offered new.offered → old.end.rx.expected ≤ new.end.rx.expected
      → (sent_end old.end.tx ≤ sent_end new.end.tx) ⊎ (peer_of old.end ≡ None)
      → IsLater old new
  later_on m p n o e s =
      record {
        falls = falls;
        grows = rw p (grows_on old.past (current old) (current new) m n o);
        moves = inl (record { mine = m; past = p; expected = e; sent = s });
      }

  -- the next session begins
  pub later_next : mine_of old < mine_of new → new.past ≡ entries old → IsLater old new
  later_next m p =
      record {
        falls = falls;
        grows = rw p (grows_new (entries old) (current new) (m, falls));
        moves = inr m;
      }

-- ---- packets in flight from it

module _ (piece : ℕ) (a b : HalfState) (l : IsLater a b) where
  acks_later : (src next : ℕ) → has_session src (entries a) ≡ true → AcksTaken a src next
      → AcksTaken b src next
  acks_later src next held h = λ e.
      elim l.moves [
        | inl same ↦
            let m = same.mine in
            let x = same.expected in
            let n = h (omega arith) in
            omega arith
        | inr more ↦ absurd (let upto = session_upto src a l.falls held in omega arith)
      ]

  -- what was sent in the present session, which has a peer
  sent_later : (src dst n : ℕ) → has_session src (entries a) ≡ true
      → is_pair dst src (entries a) ≡ true → (src ≡ mine_of a → n < sent_end a.end.tx)
      → src ≡ mine_of b → n < sent_end b.end.tx
  sent_later src dst n held pair h e =
      elim l.moves [
        | inl same ↦
            let m = same.mine in
            let number : src ≡ mine_of a = omega arith in
            let before = h number in
            elim same.sent [
              | inl more ↦ omega arith
              | inr none ↦
                  let unpaired = own_unpaired a dst none in
                  let paired : is_pair dst (mine_of a) (entries a) ≡ true =
                  subst (λ k. is_pair dst k (entries a) ≡ true) number pair in
                  absurd (grind arith)
            ]
        | inr more ↦ absurd (let upto = session_upto src a l.falls held in omega arith)
      ]

  says_sender : (src dst : ℕ) (part : Part) → has_session src (entries a) ≡ true
      → IsSaid piece a src dst part → IsSaid piece b src dst part
  says_sender src dst (Conn kinds.Connect) s h = h
  says_sender src dst (Conn kinds.ConnectAck) s h = tt
  says_sender src dst (Conn kinds.Ack) s h = l.grows.pairs dst src h
  says_sender src dst (Conn kinds.Reset) s h =
      let upto = later_upto a b l in
      let below = h.1 in
      (l.grows.pairs dst src h.0, omega arith)
  says_sender src dst (Ack next) s h = (l.grows.pairs dst src h.0, acks_later src next s h.1)
  says_sender src dst (Nack next count) s h =
      (l.grows.pairs dst src h.0, acks_later src next s h.1)
  says_sender src dst (Piece next n frame) s h = (
    l.grows.pairs dst src h.0,
    acks_later src next s h.1,
    found_in_front _ _ n frame (front_frames piece _ _ (l.grows.offers src)) h.2,
    sent_later src dst n s h.0 h.3,
  )

  -- a packet in flight stays what it is as its sender goes on
  flying_sender : (other : HalfState) (p : Packet) → IsFlying piece a other p
      → IsFlying piece b other p
  flying_sender other p f =
      record {
        from = l.grows.held p.src.0 f.from;
        to = f.to;
        latest = f.latest;
        says = says_sender p.src.0 p.dst p.part f.from f.says;
      }

  pub packets_sender : (other : HalfState) (wire : List Packet)
      → All (IsFlying piece a other) wire → All (IsFlying piece b other) wire
  packets_sender other wire h =
      All-weaker (IsFlying piece a other) (IsFlying piece b other) (flying_sender other) wire h

  -- and as its receiver goes on
  flying_receiver : (near : HalfState) (p : Packet) → IsFlying piece near a p
      → IsFlying piece near b p
  flying_receiver near p f =
      let to = f.to in
      record {
        from = f.from;
        to = let upto = later_upto a b l in omega arith;
        latest = λ e.
            elim l.moves [
              | inl same ↦
                  let m = same.mine in
                  subst (PeersUpTo p.src.0) (sym same.past) (f.latest (omega arith))
              | inr more ↦ absurd (omega arith)
            ];
        says = f.says;
      }

  pub packets_receiver : (near : HalfState) (wire : List Packet)
      → All (IsFlying piece near a) wire → All (IsFlying piece near b) wire
  packets_receiver near wire h =
      All-weaker (IsFlying piece near a) (IsFlying piece near b) (flying_receiver near) wire h

-- ---- what holds of a side as the other goes on

book_grows : (mine : ℕ) (peer : Option Session) (offered : List Message)
    (past others later : List Entry) → Grows others later
    → KeepsSessions mine peer offered past others
    → KeepsSessions mine peer offered past later
book_grows mine peer offered past others later g k =
    record {
      known = k.known;
      falls = k.falls;
      peer_held = λ y p. g.held y.0 (k.peer_held y p);
      past_held = held_grows others later g past k.past_held;
      peer_rises = k.peer_rises;
      past_rises = k.past_rises;
      messages = k.messages;
      past_messages = k.past_messages;
      unpaired = k.unpaired;
      handed = fronts_grow others later g past k.handed;
    }

pub kept_below : (m n : ℕ) (kept : List SentFrame) → m ≤ n → KeptBelow m kept → KeptBelow n kept
kept_below m n kept h all =
    All-weaker (λ s. s.number < m) (λ s. s.number < n) (λ s e. omega arith) kept all

module _ (piece mine : ℕ) (peer : Option Session) (handed : List Message) (end : EndState)
    (b c : HalfState) (l : IsLater b c)
    (held : ForSome peer (λ y. has_session y.0 (entries b) ≡ true))
    (r : Receives piece (source (entries b) mine peer) handed end.rx end.held)
    (k : Bound mine peer end b) where
  -- what was sent of the other side's session
  sent_since : (y : Session) → peer ≡ Some y → y.0 ≡ mine_of c → WasSent end.rx c.end.tx
  sent_since y p e =
      elim l.moves [
        | inr more ↦ absurd (let upto = session_upto y.0 b l.falls (held y p) in omega arith)
        | inl same ↦
            let m = same.mine in
            let number : y.0 ≡ mine_of b = omega arith in
            elim same.sent [
              | inl more ↦
                  let was = k.was_sent y p number in
                  let taken = was.taken in
                  record {
                    taken = omega arith;
                    kept = kept_below (sent_end b.end.tx) (sent_end c.end.tx) end.rx.kept more
                        was.kept;
                  }
              | inr none ↦
                  let nothing = takes_nothing piece (source (entries b) mine peer) handed end.rx
                  end.held (source_unpaired b mine y peer p number none) r in
                  let expected = nothing.expected in
                  record { taken = omega arith; kept = nothing.kept (sent_end c.end.tx) }
            ]
      ]

  bound_later : Bound mine peer end c
  bound_later =
      record {
        base_taken = λ y p e.
            elim l.moves [
              | inl same ↦
                  let m = same.mine in
                  let x = same.expected in
                  let h = k.base_taken y p (omega arith) in
                  omega arith
              | inr more ↦
                  absurd (let upto = session_upto y.0 b l.falls (held y p) in omega arith)
            ];
        base_none = λ y p e.
            k.base_none y p (elim (either (is_pair mine y.0 (entries b))) [
              | inl paired ↦
                  let now = l.grows.pairs mine y.0 paired in
                  absurd (grind arith)
              | inr other ↦ other
            ]);
        confirmed = λ y p e. l.grows.pairs mine y.0 (k.confirmed y p e);
        was_sent = sent_since;
      }

-- what holds of a side stays as the other side goes on
pub keeps_later : (piece : ℕ) (a b c : HalfState) (wire : List Packet) → IsLater b c
    → KeepsHalf piece a b wire → KeepsHalf piece a c wire
keeps_later piece a b c wire l k =
    record {
      book = book_grows (mine_of a) (peer_of a.end) a.offered a.past (entries b) (entries c) l.grows
          k.book;
      cut = k.cut;
      window = k.window;
      sends = k.sends;
      receives = receives_grow piece (source (entries b) (mine_of a) (peer_of a.end))
          (source (entries c) (mine_of a) (peer_of a.end)) a.handed a.end.rx a.end.held
          (source_grows (entries b) (entries c) l.grows (mine_of a) (peer_of a.end)) k.receives;
      bound = bound_later piece (mine_of a) (peer_of a.end) a.handed a.end b c l k.book.peer_held
          k.receives k.bound;
      out = k.out;
      packets = packets_receiver piece b c l a wire k.packets;
    }
