-- Each packet that a side sends is one that may be in flight from it, and what a packet in flight
-- tells its receiver.
use Rattle.std.proofs.Common.{◌≡◌, ◌⊎◌, ◌+◌, ◌<◌, ◌≤◌, ℕ, true, Option, Some, None, List, [], ◌∷◌}
use Rattle.std.proofs.Common.{All, refl, sym, ap, subst, ◌∙◌, arith, inl, inr, slice_get}
use Rattle.std.proofs.lemmas.List.Elements.{All-nil, All-cons, All-head, All-tail}
use Rattle.linx_base.specs.declared.identity.Session.{Session}
use Rattle.linx_base.specs.declared.frame.ConnKind.TheVariants as kinds
use Rattle.linx_base.specs.declared.frame.Frame.{Frame}
use Rattle.ethcm_headers.specs.declared.packets.Packet.{Packet}
use Rattle.ethcm_headers.specs.declared.packets.Part.{Part}
use Rattle.ethcm_headers.specs.declared.packets.Part.TheVariants.{Conn, Ack, Nack, Piece}
use Rattle.ethcm_window.specs.Sending.{Sender, sent_end}
use Rattle.fragmenter.specs.Streams.{frames_of}
use Rattle.ethcm_end.specs.States.{EndState, peer_of}
use Rattle.ethcm_end.specs.Rules.{kind_in}
use Rattle.ethcm_end.specs.Rows.{IsBetween}
use Rattle.ethcm_end.specs.Windows.{IsExpected, IsSent, PartSays, acknowledged_in, peer_or_unknown}
use Rattle.ethcm_end.proofs.Naming.{window_frame}
use Rattle.carrier.specs.Records.{HalfState, entries, has_session, is_pair, mine_of, offered_at}
use Rattle.carrier.specs.Records.{source}
use Rattle.carrier.specs.Events.{drained}
use Rattle.carrier.specs.Keeping.{AcksTaken, FallsBelow, HoldsRest, IsFlying, IsSaid, PeersHeld}
use Rattle.carrier.specs.Keeping.{PeersUpTo}
use Rattle.carrier.proofs.Ends.{IsBelow}
use Rattle.carrier.proofs.Growing.{IsLater}
use Rattle.carrier.proofs.Lookups.{own_pair, own_session, peers_upto, session_upto, source_paired}

-- ---- what is sent

-- side a has become c, whose end was this before its packets went out
pub record Became (piece : ℕ) (a b c : HalfState) (tx : Sender) (new : EndState) : Type 0 where
  pub later : IsLater a c
  pub end : c.end ≡ drained new
  -- it goes on where it has a peer
  pub same : (y : Session) → peer_of new ≡ Some y → mine_of c ≡ mine_of a
  -- the sender of its pieces has the frames of the session
  pub holds : HoldsRest (frames_of piece (offered_at (mine_of a) (entries c))) tx
  pub falls : FallsBelow (mine_of a) a.past
  pub held : PeersHeld (entries a) b.past

module _ (piece : ℕ) (a b c : HalfState) (tx : Sender) (new : EndState)
    (became : Became piece a b c tx new) where
  number : mine_of c ≡ new.talk.mine.0
  number = ap (λ (s : EndState). s.talk.mine.0) became.end

  -- a packet to the peer that the session had
  pair_before : (to : Session) → peer_of a.end ≡ Some to
      → is_pair to.0 (mine_of a) (entries c) ≡ true
  pair_before to e = became.later.grows.pairs to.0 (mine_of a) (own_pair a to e)

  -- a packet to the peer that it has now
  pair_now : (to : Session) → peer_of new ≡ Some to
      → is_pair to.0 (mine_of a) (entries c) ≡ true
  pair_now to e =
      let peer : peer_of c.end ≡ Some to = ap (λ (s : EndState). peer_of s) became.end ∙ e in
      subst (λ n. is_pair to.0 n (entries c) ≡ true) (became.same to e) (own_pair c to peer)

  acks_sent : (next : ℕ) → IsExpected a.end new next → AcksTaken c (mine_of a) next
  acks_sent next h e =
      let now : c.end.rx.expected ≡ new.rx.expected =
      ap (λ (s : EndState). s.rx.expected) became.end in
      elim became.later.moves [
        | inr more ↦ absurd (omega arith)
        | inl same ↦
            let up = same.expected in
            elim h [
              | inl before ↦ omega arith
              | inr after ↦ omega arith
            ]
      ]

  says_sent : (to : Session) (part : Part) → PartSays tx a.end new to part
      → (mine_of a ≡ mine_of c → IsBelow (sent_end c.end.tx)
      (record { src = a.end.talk.mine; dst = to.0; part = part }))
      → IsSaid piece c (mine_of a) to.0 part
  says_sent to (Conn kinds.Connect) h below = h.1
  says_sent to (Conn kinds.ConnectAck) h below = tt
  says_sent to (Conn kinds.Ack) h below = pair_now to h
  says_sent to (Conn kinds.Reset) h below =
      let next : new.talk.mine.0 ≡ mine_of a + 1 = ap (λ (s : Session). s.0) h.1.session in
      let now : mine_of c ≡ new.talk.mine.0 = number in
      (pair_before to h.0, omega arith)
  says_sent to (Ack next) h below = (pair_before to h.0, acks_sent next h.1)
  says_sent to (Nack next count) h below = (pair_before to h.0, acks_sent next h.1)
  says_sent to (Piece next n frame) h below = (
    pair_before to h.0,
    acks_sent next h.1.0,
    window_frame (frames_of piece (offered_at (mine_of a) (entries c))) tx became.holds n frame
        h.1.1,
    below,
  )

  flies : (to : Session) (p : Packet) → to.0 ≤ mine_of b → IsSent tx a.end new to p
      → (mine_of a ≡ mine_of c → IsBelow (sent_end c.end.tx) p) → IsFlying piece c b p
  flies to p upto sent below =
      let src : p.src.0 ≡ mine_of a = ap (λ (s : Session). s.0) sent.src in
      let dst : p.dst ≡ to.0 = sent.dst in
      record {
        from = subst (λ n. has_session n (entries c) ≡ true) (sym src)
            (became.later.grows.held (mine_of a) (own_session a));
        to = omega arith;
        latest = λ e. subst (λ n. PeersUpTo n b.past) (sym src)
            (peers_upto a b.past became.falls became.held);
        says = subst (λ n. IsSaid piece c n p.dst p.part) (sym src)
            (subst (λ d. IsSaid piece c (mine_of a) d p.part) (sym dst)
            (says_sent to p.part sent.says below));
      }

  -- all that is sent to a session of the other side flies
  pub all_fly : (to : Session) (packets : List Packet) → to.0 ≤ mine_of b
      → All (IsSent tx a.end new to) packets
      → (mine_of a ≡ mine_of c → All (IsBelow (sent_end c.end.tx)) packets)
      → All (IsFlying piece c b) packets
  all_fly to [] upto sent below = All-nil (IsFlying piece c b)
  all_fly to (p ∷ ps) upto sent below =
      All-cons (IsFlying piece c b) p ps
      (flies to p upto (All-head (IsSent tx a.end new to) p ps sent)
      (λ e. All-head (IsBelow (sent_end c.end.tx)) p ps (below e)))
      (all_fly to ps upto (All-tail (IsSent tx a.end new to) p ps sent)
      (λ e. All-tail (IsBelow (sent_end c.end.tx)) p ps (below e)))

-- a session that a side sends to of its own accord is no later than the other side's
pub partner_upto : (a b : HalfState) (peer : Option Session) → FallsBelow (mine_of b) b.past
    → ((y : Session) → peer ≡ Some y → has_session y.0 (entries b) ≡ true)
    → (peer_or_unknown peer).0 ≤ mine_of b
partner_upto a b None falls held = omega arith
partner_upto a b (Some y) falls held = session_upto y.0 b falls (held y refl)

-- ---- what is heard

module _ (piece : ℕ) (b : HalfState) (src dst : ℕ) where
  -- what acknowledges frames acknowledges no more than was taken
  pub acks_said : (part : Part) (next : ℕ) → acknowledged_in part ≡ Some next
      → IsSaid piece b src dst part → AcksTaken b src next
  acks_said (Conn kind) next e h = absurd (grind arith)
  acks_said (Ack n) next e h =
      let same : n ≡ next = grind arith in
      subst (AcksTaken b src) same h.1
  acks_said (Nack n count) next e h =
      let same : n ≡ next = grind arith in
      subst (AcksTaken b src) same h.1
  acks_said (Piece n k frame) next e h =
      let same : n ≡ next = grind arith in
      subst (AcksTaken b src) same h.1

  -- what confirms, and data, name a pair
  pub pair_said : (part : Part) → (part ≡ Conn kinds.Ack) ⊎ (kind_in part ≡ None)
      → IsSaid piece b src dst part → is_pair dst src (entries b) ≡ true
  pair_said (Conn kinds.Connect) e h = absurd (elim e [ inl q ↦ grind arith | inr q ↦ grind arith ])
  pair_said (Conn kinds.ConnectAck) e h =
      absurd (elim e [ inl q ↦ grind arith | inr q ↦ grind arith ])
  pair_said (Conn kinds.Ack) e h = h
  pair_said (Conn kinds.Reset) e h = h.0
  pair_said (Ack next) e h = h.0
  pair_said (Nack next count) e h = h.0
  pair_said (Piece next n frame) e h = h.0

  pub acks_pair : (part : Part) (next : ℕ) → acknowledged_in part ≡ Some next
      → IsSaid piece b src dst part → is_pair dst src (entries b) ≡ true
  acks_pair (Conn kind) next e h = absurd (grind arith)
  acks_pair (Ack n) next e h = h.0
  acks_pair (Nack n count) next e h = h.0
  acks_pair (Piece n k frame) next e h = h.0

-- a piece between two sessions that have each other as their peers is the frame of its number in
-- what is offered to the receiver's
pub record IsOffered (piece : ℕ) (a b : HalfState) (p : Packet) (n : ℕ) (frame : Frame)
    : Type 0 where
  pub pair : is_pair (mine_of a) p.src.0 (entries b) ≡ true
  pub frame_is :
      slice_get (frames_of piece (source (entries b) (mine_of a) (peer_of a.end))) n ≡ Some frame
  pub was_sent : p.src.0 ≡ mine_of b → n < sent_end b.end.tx

pub piece_heard : (piece : ℕ) (a b : HalfState) (p : Packet) (next n : ℕ) (frame : Frame)
    → IsFlying piece b a p → IsBetween a.end p → p.part ≡ Piece next n frame
    → IsOffered piece a b p n frame
piece_heard piece a b p next n frame f between k =
    let said : IsSaid piece b p.src.0 p.dst (Piece next n frame) =
    subst (IsSaid piece b p.src.0 p.dst) k f.says in
    let pair : is_pair (mine_of a) p.src.0 (entries b) ≡ true =
    subst (λ d. is_pair d p.src.0 (entries b) ≡ true) between.to said.0 in
    let offered : source (entries b) (mine_of a) (peer_of a.end) ≡ offered_at p.src.0 (entries b) =
    source_paired (entries b) (mine_of a) p.src (peer_of a.end) between.from pair in
    record {
      pair = pair;
      frame_is = subst (λ l. slice_get (frames_of piece l) n ≡ Some frame) (sym offered) said.2;
      was_sent = said.3;
    }
