-- What a packet, a tick and an offered message make of an end is what their rules say.
use Rattle.std.proofs.Common.{◌≡◌, ◌≢◌, ℕ, ◌+◌, ◌<◌, eqb, Bool, true, false, None, Some, List, []}
use Rattle.std.proofs.Common.{◌∷◌, refl, ap, ◌∙◌, arith, eq-eqb, le-ltb, lt-ltb, ne_eqb}
use Rattle.linx_base.specs.declared.identity.Session.{Session}
use Rattle.linx_base.specs.declared.frame.ConnKind.TheVariants as kinds
use Rattle.linx_base.specs.declared.frame.Frame.{Frame}
use Rattle.linx_base.specs.declared.frame.SentFrame.{SentFrame}
use Rattle.ethcm_headers.specs.declared.packets.Packet.{Packet}
use Rattle.ethcm_headers.specs.declared.packets.Part.{Part}
use Rattle.ethcm_headers.specs.declared.packets.Part.TheVariants.{Conn, Ack, Nack, Piece}
use Rattle.ethcm_session.specs.declared.standing.Standing.{Standing}
use Rattle.ethcm_session.specs.declared.standing.Standing.TheVariants.{Connecting, Up}
use Rattle.ethcm_session.specs.Table.{from_peer, standing_peer, while_connecting}
use Rattle.ethcm_window.specs.Sending.{sent_frame, unacknowledged}
use Rattle.fragmenter.specs.declared.joiner.Joined.{Joined}
use Rattle.fragmenter.specs.declared.joiner.Joined.TheVariants.{More, Whole, Broken}
use Rattle.ethcm_session.specs.Loss.{lost_at}
use Rattle.ethcm_end.specs.declared.answers.Input.TheVariants.{Nothing, WentDown}
use Rattle.ethcm_end.specs.declared.answers.Ticked.TheVariants as ticks
use Rattle.ethcm_end.specs.States.{EndState, gives, peer_of}
use Rattle.ethcm_end.specs.Rules.{ask, data_in, finished, framed_in, gone_down, input_of, kind_in}
use Rattle.ethcm_end.specs.Rules.{put_ack, put_pieces, reacts, sent_or_ack, take_frames, tick_of}
use Rattle.ethcm_end.specs.Rules.{tick_up, ticked, with_early, with_taken, offer_of}
use Rattle.ethcm_end.specs.Rows.{InputFollowsRules, IsBetween, TickFollowsRules, after_header}
use Rattle.ethcm_end.specs.Rows.{OfferFollowsRules}

-- ---- where an end stands

is_connecting : (standing : Standing) → standing_peer standing ≡ None → standing ≡ Connecting
is_connecting Connecting e = refl
is_connecting (Up peer confirmed) e = absurd (grind arith)

is_up : (standing : Standing) (peer : Session) → standing_peer standing ≡ Some peer
    → (confirmed : Bool) × (standing ≡ Up peer confirmed)
is_up Connecting peer e = absurd (grind arith)
is_up (Up y confirmed) peer e =
    let same : y ≡ peer = grind arith in
    (confirmed, ap (λ (z : Session). Up z confirmed) same)

-- ---- packets that mean nothing

module _ (s : EndState) (src : Session) where
  not_mine : (part : Part) → part ≢ Conn kinds.Connect
      → reacts s src part (from_peer s.talk src (kind_in part) false) ≡ gives s Nothing
  not_mine (Conn kinds.Connect) other = absurd (other refl)
  not_mine _ other = refl

  other_part : (dst : ℕ) (part : Part) → part ≢ Conn kinds.Connect
      → (part ≡ Conn kinds.ConnectAck → dst ≢ s.talk.mine.0)
      → (part ≡ Conn kinds.Ack → dst ≢ s.talk.mine.0)
      → reacts s src part (while_connecting s.talk src (kind_in part) (eqb dst s.talk.mine.0))
      ≡ gives s Nothing
  other_part dst (Conn kinds.Connect) other a b = absurd (other refl)
  other_part dst (Conn kinds.ConnectAck) other a b = rw (ne_eqb dst s.talk.mine.0 (a refl)) refl
  other_part dst (Conn kinds.Ack) other a b = rw (ne_eqb dst s.talk.mine.0 (b refl)) refl
  other_part dst _ other a b = refl

-- ---- a packet

module _ (s : EndState) (p : Packet) where
  -- connecting
  from_none : peer_of s ≡ None
      → input_of s p
      ≡ reacts s p.src p.part
      (while_connecting s.talk p.src (kind_in p.part) (eqb p.dst s.talk.mine.0))
  unfolding input_of
  from_none e = rw (is_connecting s.talk.standing e) refl

  -- up, and from the peer
  from_up : peer_of s ≡ Some p.src
      → input_of s p
      ≡ reacts s p.src p.part (from_peer s.talk p.src (kind_in p.part) (eqb p.dst s.talk.mine.0))
  unfolding input_of
  from_up e = rw ((is_up s.talk.standing p.src e).1, le-ltb p.src.0 p.src.0 (omega arith)) refl

  -- and to this session
  from_between : (part : Part) → p.part ≡ part → IsBetween s p
      → input_of s p ≡ reacts s p.src part (from_peer s.talk p.src (kind_in part) true)
  from_between part e between =
      from_up between.from
      ∙ rw (e, eq-eqb p.dst s.talk.mine.0 between.to) refl

  lower : (peer : Session) → peer_of s ≡ Some peer → p.src.0 < peer.0
      → input_of s p ≡ gives s Nothing
  unfolding input_of
  lower peer e h = rw ((is_up s.talk.standing peer e).1, lt-ltb p.src.0 peer.0 h) refl

  greater : (peer : Session) → peer_of s ≡ Some peer → peer.0 < p.src.0
      → input_of s p ≡ gives (gone_down s) WentDown
  unfolding input_of
  greater peer e h =
      rw (
        (is_up s.talk.standing peer e).1,
        le-ltb p.src.0 peer.0 (omega arith),
        lt-ltb peer.0 p.src.0 h,
      ) refl

  piece : (next seq : ℕ) (frame : Frame) → IsBetween s p → p.part ≡ Piece next seq frame
      → input_of s p ≡ framed_in (after_header s p.src next) p.src (sent_frame seq frame)
  unfolding data_in
  piece next seq frame between e = from_between (Piece next seq frame) e between

  below : (next seq : ℕ) (frame : Frame) → IsBetween s p → p.part ≡ Piece next seq frame
      → seq < s.rx.expected
      → input_of s p ≡ gives (put_ack (after_header s p.src next) p.src) Nothing
  below next seq frame between e h =
      piece next seq frame between e
      ∙ rw (ne_eqb seq s.rx.expected (λ q. omega arith), lt-ltb seq s.rx.expected h) refl

  above : (next seq : ℕ) (frame : Frame) → IsBetween s p → p.part ≡ Piece next seq frame
      → s.rx.expected < seq
      → input_of s p
      ≡ gives (ask (with_early (after_header s p.src next) (sent_frame seq frame)) p.src) Nothing
  above next seq frame between e h =
      piece next seq frame between e
      ∙ rw (
        ne_eqb seq s.rx.expected (λ q. omega arith),
        le-ltb seq s.rx.expected (omega arith),
      ) refl

  expected : (next : ℕ) (frame : Frame) (made : Joined) → IsBetween s p
      → p.part ≡ Piece next s.rx.expected frame → (take_frames s frame).made ≡ made
      → input_of s p
      ≡ finished (with_taken (after_header s p.src next) (take_frames s frame)) p.src made
  expected next frame made between e m =
      piece next s.rx.expected frame between e
      ∙ rw (eq-eqb s.rx.expected s.rx.expected refl)
      (ap (finished (with_taken (after_header s p.src next) (take_frames s frame)) p.src) m)

pub input_rows : InputFollowsRules
unfolding data_in
input_rows s p =
    record {
      connecting_connect = λ e k. from_none s p e ∙ rw k refl;
      connecting_connect_ack = λ e k d. from_none s p e ∙ rw (k, eq-eqb p.dst s.talk.mine.0 d) refl;
      connecting_ack = λ e k d. from_none s p e ∙ rw (k, eq-eqb p.dst s.talk.mine.0 d) refl;
      connecting_other = λ e a b c. from_none s p e ∙ other_part s p.src p.dst p.part a b c;
      up_lower = λ peer e h. lower s p peer e h;
      up_greater = λ peer e h. greater s p peer e h;
      up_connect = λ e k. from_up s p e ∙ rw k refl;
      up_not_mine = λ e k d.
          from_up s p e ∙ rw (ne_eqb p.dst s.talk.mine.0 d) (not_mine s p.src p.part k);
      up_reset = λ b k. from_between s p (Conn kinds.Reset) k b;
      up_connect_ack = λ b k. from_between s p (Conn kinds.ConnectAck) k b;
      up_ack = λ b k. from_between s p (Conn kinds.Ack) k b;
      frames_acked = λ next b k. from_between s p (Ack next) k b;
      frames_missed = λ next count b k. from_between s p (Nack next count) k b;
      old = λ next seq frame b k h. below s p next seq frame b k h;
      early_again = λ next seq frame b k h a. above s p next seq frame b k h ∙ rw a refl;
      early = λ next seq frame b k h a. above s p next seq frame b k h ∙ rw a refl;
      taken = λ next frame b k m. expected s p next frame More b k m;
      taken_whole = λ next frame m b k w. expected s p next frame (Whole m) b k w;
      taken_broken = λ next frame b k m. expected s p next frame Broken b k m;
    }

-- ---- a tick

-- frames that aren't none are sent again
sent_again : (s : EndState) (peer : Session) (sent : List SentFrame) → sent ≢ []
    → sent_or_ack s peer sent ≡ put_pieces s peer sent
sent_again s peer [] other = absurd (other refl)
sent_again s peer (f ∷ fs) other = refl

module _ (s : EndState) (peer : Session) (is : peer_of s ≡ Some peer) where
  up_tick : tick_of s ≡ tick_up s peer
  unfolding tick_of
  up_tick = rw (is_up s.talk.standing peer is).1 refl

  up_beat : s.ticks + 1 < lost_at
      → tick_of s ≡ gives (sent_or_ack (ticked s) peer (unacknowledged s.tx)) ticks.Stays
  up_beat h = up_tick ∙ rw (lt-ltb _ _ h) refl

pub tick_rows : TickFollowsRules
unfolding tick_of
tick_rows s =
    record {
      connecting = λ e. rw (is_connecting s.talk.standing e) refl;
      lost = λ peer e h. up_tick s peer e ∙ rw (le-ltb _ _ h) refl;
      again = λ peer e h other.
          up_beat s peer e h
          ∙ ap (λ (t : EndState). gives t ticks.Stays)
          (sent_again (ticked s) peer (unacknowledged s.tx) other);
      idle = λ peer e h none. up_beat s peer e h ∙ rw none refl;
    }

-- ---- an offered message

pub offer_rows : OfferFollowsRules
unfolding offer_of
offer_rows s m =
    record {
      connecting = λ e. rw (is_connecting s.talk.standing e) refl;
      up = λ peer e. rw (is_up s.talk.standing peer e).1 refl;
    }
