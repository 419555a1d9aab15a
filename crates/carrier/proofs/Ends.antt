-- What is known of an end after a packet, a tick or an offer, by what it answered: its laws, and
-- that each piece that it sends is within its window.
use Rattle.std.proofs.Common.{◌≡◌, ◌⊎◌, ◌+◌, ◌-◌, ◌<◌, ◌≤◌, ℕ, suc, leb, true, Some, List, [], ◌∷◌}
use Rattle.std.proofs.Common.{◌++◌, All, length, take, map, refl, ap, ◌∙◌, arith, inl, inr}
use Rattle.std.proofs.Common.{length-append, length-drop, length-take}
use Rattle.std.proofs.lemmas.List.Elements.{All-nil, All-cons, All-append, All-filter, All-map}
use Rattle.std.proofs.lemmas.List.Elements.{All-take}
use Rattle.linx_base.specs.declared.identity.Session.{Session}
use Rattle.linx_base.specs.declared.frame.Frame.{Frame}
use Rattle.linx_base.specs.declared.frame.Message.{Message}
use Rattle.linx_base.specs.declared.frame.SentFrame.{SentFrame}
use Rattle.ethcm_headers.specs.declared.packets.Packet.{Packet}
use Rattle.ethcm_headers.specs.declared.packets.Part.{Part}
use Rattle.ethcm_headers.specs.declared.packets.Part.TheVariants.{Conn, Ack, Nack, Piece}
use Rattle.ethcm_session.specs.declared.standing.Standing.{Standing}
use Rattle.ethcm_session.specs.declared.standing.Standing.TheVariants.{Connecting, Up}
use Rattle.ethcm_session.specs.Table.{is_confirmed_in}
use Rattle.ethcm_window.specs.Sending.{Sender, after_ack, coming_in, from_number, numbered_from}
use Rattle.ethcm_window.specs.Sending.{sent_again, sent_end, unacknowledged, with_frames}
use Rattle.fragmenter.specs.declared.joiner.Joined.{Joined}
use Rattle.fragmenter.specs.declared.joiner.Joined.TheVariants.{More, Whole, Broken}
use Rattle.fragmenter.specs.Pieces.{pieces_of}
use Rattle.ethcm_end.specs.declared.answers.Input.{Input}
use Rattle.ethcm_end.specs.declared.answers.Input.TheVariants.{Nothing, WentUp, WentDown, Got}
use Rattle.ethcm_end.specs.declared.answers.Ticked.{Ticked}
use Rattle.ethcm_end.specs.declared.answers.Ticked.TheVariants as ticks
use Rattle.ethcm_end.specs.States.{EndState, peer_of}
use Rattle.ethcm_end.specs.Rules.{input_of, offer_in, offer_of, piece_packet, take_frames, tick_of}
use Rattle.ethcm_end.specs.Rows.{IsBetween}
use Rattle.ethcm_end.specs.Answers.{IsGreater, IsReset, TakesTo}
use Rattle.ethcm_end.specs.Sessions.{Confirms, GoesBy, GoesByTick, GoesOn, KeepsSizes}
use Rattle.ethcm_end.specs.Windows.{Acknowledges, SendsPackets, acknowledged_in, peer_or_unknown}
use Rattle.ethcm_end.specs.Taking.{KeepsEarly, ReceivesNothing, TakesPiece}
use Rattle.ethcm_end.proofs.Answering.{answers_exactly}
use Rattle.ethcm_end.proofs.ByRule.{by_rules, by_tick_rules}
use Rattle.ethcm_end.proofs.Confirming.{peers_confirm}
use Rattle.ethcm_end.proofs.Moving.{windows_move}
use Rattle.ethcm_end.proofs.Rising.{by_ack, sessions_rise}
use Rattle.ethcm_end.proofs.Sending.{packets_name_sessions}
use Rattle.ethcm_end.proofs.Taking.{frames_in_turn}

-- ---- the window

-- where the session goes on, the window stays, or frames are acknowledged
abbrev pub WindowBy : EndState → Packet → EndState → Input → Type 0
WindowBy s p new Nothing = (new.tx ≡ s.tx) ⊎ Acknowledges s p new
WindowBy s p new WentUp = Unit {0}
WindowBy s p new WentDown = Unit {0}
WindowBy s p new (Got m) = (new.tx ≡ s.tx) ⊎ Acknowledges s p new

acks : (s : EndState) (p : Packet) (new : EndState) → IsBetween s p → (part : Part)
    → p.part ≡ part → (next : ℕ) → acknowledged_in part ≡ Some next
    → new.tx ≡ after_ack s.tx next → (new.tx ≡ s.tx) ⊎ Acknowledges s p new
acks s p new b part k next names window =
    inr (record {
      between = b;
      next = next;
      names = ap acknowledged_in k ∙ names;
      window = window;
    })

window_by : (s : EndState) (p : Packet) → WindowBy s p (input_of s p).state (input_of s p).answer
window_by s p =
    by_rules (λ r. WindowBy s p r.state r.answer) s p (record {
      connecting_connect = λ e k. inl refl;
      connecting_connect_ack = λ e k d. tt;
      connecting_ack = λ e k d. tt;
      connecting_other = λ e a b c. inl refl;
      up_lower = λ peer e h. inl refl;
      up_greater = λ peer e h. tt;
      up_connect = λ e k. inl refl;
      up_not_mine = λ e k d. inl refl;
      up_reset = λ b k. tt;
      up_connect_ack = λ b k. inl refl;
      up_ack = λ b k. inl refl;
      frames_acked = λ next b k. acks s p _ b _ k next refl refl;
      frames_missed = λ next count b k. acks s p _ b _ k next refl refl;
      old = λ next seq frame b k h. acks s p _ b _ k next refl refl;
      early_again = λ next seq frame b k h a. acks s p _ b _ k next refl refl;
      early = λ next seq frame b k h a. acks s p _ b _ k next refl refl;
      taken = λ next frame b k m. acks s p _ b _ k next refl refl;
      taken_whole = λ next frame m b k w. acks s p _ b _ k next refl refl;
      taken_broken = λ next frame b k w. tt;
    })

-- no number of a sent frame is taken back
pub acked_end : (tx : Sender) (next : ℕ) → sent_end tx ≤ sent_end (after_ack tx next)
acked_end tx next =
    by_ack (λ new. sent_end tx ≤ sent_end new) tx next (omega arith)
    (λ from to. omega (arith, length-drop (next - tx.base) tx.frames))

pub acked_base : (tx : Sender) (next : ℕ)
    → ((after_ack tx next).base ≡ tx.base) ⊎ ((after_ack tx next).base ≡ next)
acked_base tx next =
    by_ack (λ new. (new.base ≡ tx.base) ⊎ (new.base ≡ next)) tx next (inl refl)
    (λ from to. inr refl)

pub offered_end : (tx : Sender) (frames : List Frame)
    → sent_end tx ≤ sent_end (with_frames tx frames)
offered_end tx frames = omega (arith, length-append tx.frames frames)

-- ---- what is taken

-- the piece of the expected number, and those behind it, made this
pub record Takes (s : EndState) (p : Packet) (new : EndState) (made : Joined) : Type 0 where
  pub piece : TakesPiece s p new
  pub makes : (take_frames s piece.frame).made ≡ made

-- where the session goes on, nothing is received, or a frame is kept, or frames are taken; it goes
-- down for a greater session, a RESET or a broken frame
abbrev pub TakesBy : EndState → Packet → EndState → Input → Type 0
TakesBy s p new Nothing = ReceivesNothing s new ⊎ (KeepsEarly s p new ⊎ Takes s p new More)
TakesBy s p new WentUp = Unit {0}
TakesBy s p new WentDown = Unit {0}
TakesBy s p new (Got m) = Takes s p new (Whole m)

module _ (s : EndState) (p : Packet) (new : EndState) where
  none : new.rx ≡ s.rx → new.held ≡ s.held
      → ReceivesNothing s new ⊎ (KeepsEarly s p new ⊎ Takes s p new More)
  none rx held = inl (record { receives = rx; held = held })

  takes : IsBetween s p → (next : ℕ) (frame : Frame) (made : Joined)
      → p.part ≡ Piece next s.rx.expected frame → new.rx ≡ (take_frames s frame).rx
      → new.held ≡ (take_frames s frame).held → (take_frames s frame).made ≡ made
      → Takes s p new made
  takes b next frame made k rx held m =
      record {
        piece = record {
          between = b;
          next = next;
          frame = frame;
          piece = k;
          receives = rx;
          held = held;
        };
        makes = m;
      }

takes_by : (s : EndState) (p : Packet) → TakesBy s p (input_of s p).state (input_of s p).answer
takes_by s p =
    by_rules (λ r. TakesBy s p r.state r.answer) s p (record {
      connecting_connect = λ e k. none s p _ refl refl;
      connecting_connect_ack = λ e k d. tt;
      connecting_ack = λ e k d. tt;
      connecting_other = λ e a b c. none s p s refl refl;
      up_lower = λ peer e h. none s p s refl refl;
      up_greater = λ peer e h. tt;
      up_connect = λ e k. none s p _ refl refl;
      up_not_mine = λ e k d. none s p s refl refl;
      up_reset = λ b k. tt;
      up_connect_ack = λ b k. none s p _ refl refl;
      up_ack = λ b k. none s p _ refl refl;
      frames_acked = λ next b k. none s p _ refl refl;
      frames_missed = λ next count b k. none s p _ refl refl;
      old = λ next seq frame b k h. none s p _ refl refl;
      early_again = λ next seq frame b k h a.
          inr (inl (record {
            between = b;
            next = next;
            n = seq;
            frame = frame;
            piece = k;
            early = h;
            receives = refl;
            held = refl;
          }));
      early = λ next seq frame b k h a.
          inr (inl (record {
            between = b;
            next = next;
            n = seq;
            frame = frame;
            piece = k;
            early = h;
            receives = refl;
            held = refl;
          }));
      taken = λ next frame b k m. inr (inr (takes s p _ b next frame More k refl refl m));
      taken_whole = λ next frame m b k w. takes s p _ b next frame (Whole m) k refl refl w;
      taken_broken = λ next frame b k w. tt;
    })

-- ---- the numbers of the pieces that are sent

abbrev pub NumberBelow : ℕ → Part → Type 0
NumberBelow n (Conn kind) = Unit {0}
NumberBelow n (Ack next) = Unit {0}
NumberBelow n (Nack next count) = Unit {0}
NumberBelow n (Piece next k frame) = k < n

-- the number of a piece is below n
abbrev pub IsBelow : ℕ → Packet → Type 0
IsBelow n p = NumberBelow n p.part

-- where the session goes on or goes up, the pieces that go out are within the window
abbrev pub BelowBy : EndState → EndState → Input → Type 0
BelowBy s new WentDown = Unit {0}
BelowBy s new Nothing =
    All (IsBelow (sent_end new.tx)) s.out → All (IsBelow (sent_end new.tx)) new.out
BelowBy s new WentUp =
    All (IsBelow (sent_end new.tx)) s.out → All (IsBelow (sent_end new.tx)) new.out
BelowBy s new (Got m) =
    All (IsBelow (sent_end new.tx)) s.out → All (IsBelow (sent_end new.tx)) new.out

-- frames with numbers below n
abbrev AreBelow : ℕ → List SentFrame → Type 0
AreBelow n sent = All (λ f. f.number < n) sent

numbered_below : (n k : ℕ) (frames : List Frame) → k + length frames ≤ n
    → AreBelow n (numbered_from k frames)
unfolding numbered_from
numbered_below n k [] h = All-nil (λ f. f.number < n)
numbered_below n k (f ∷ fs) h =
    All-cons (λ f. f.number < n) _ (numbered_from (suc k) fs) (omega arith)
    (numbered_below n (suc k) fs (omega arith))

module _ (tx : Sender) where
  window_below : AreBelow (sent_end tx) (unacknowledged tx)
  window_below =
      numbered_below (sent_end tx) tx.base (take tx.window tx.frames)
      (omega (arith, length-take tx.window tx.frames))

  coming_below : (old : Sender) → AreBelow (sent_end tx) (coming_in old tx)
  coming_below old =
      All-filter (λ f. leb (sent_end old) f.number) (λ f. f.number < sent_end tx)
      (unacknowledged tx) window_below

  again_below : (next count : ℕ) → AreBelow (sent_end tx) (sent_again tx next count)
  again_below next count =
      All-take (λ f. f.number < sent_end tx) count (from_number next (unacknowledged tx))
      (All-filter (λ f. leb next f.number) (λ f. f.number < sent_end tx) (unacknowledged tx)
      window_below)

module _ (n : ℕ) (out : List Packet) (h : All (IsBelow n) out) where
  -- a packet behind them
  one : (p : Packet) → IsBelow n p → All (IsBelow n) (out ++ p ∷ [])
  one p below =
      All-append (IsBelow n) out (p ∷ []) h
      (All-cons (IsBelow n) p [] below (All-nil (IsBelow n)))

  -- pieces behind them
  some : (mid : EndState) (to : Session) (sent : List SentFrame) → AreBelow n sent
      → All (IsBelow n) (out ++ map (piece_packet mid to) sent)
  some mid to sent below =
      All-append (IsBelow n) out (map (piece_packet mid to) sent) h
      (All-map (IsBelow n) (piece_packet mid to) sent below)

below_by : (s : EndState) (p : Packet) → BelowBy s (input_of s p).state (input_of s p).answer
below_by s p =
    let tx : ℕ → Sender = λ next. after_ack s.tx next in
    let coming : (next : ℕ) → AreBelow (sent_end (after_ack s.tx next))
    (coming_in s.tx (after_ack s.tx next)) = λ next. coming_below (after_ack s.tx next) s.tx in
    by_rules (λ r. BelowBy s r.state r.answer) s p (record {
      connecting_connect = λ e k h. one _ s.out h _ tt;
      connecting_connect_ack = λ e k d h. one _ s.out h _ tt;
      connecting_ack = λ e k d h. h;
      connecting_other = λ e a b c h. h;
      up_lower = λ peer e l h. h;
      up_greater = λ peer e l. tt;
      up_connect = λ e k h. one _ s.out h _ tt;
      up_not_mine = λ e k d h. h;
      up_reset = λ b k. tt;
      up_connect_ack = λ b k h. one _ s.out h _ tt;
      up_ack = λ b k h. h;
      frames_acked = λ next b k h. some _ s.out h s p.src _ (coming next);
      frames_missed = λ next count b k h.
          some _ _ (some _ s.out h s p.src _ (coming next)) s p.src _
          (again_below (after_ack s.tx next) next count);
      old = λ next seq frame b k l h. one _ _ (some _ s.out h s p.src _ (coming next)) _ tt;
      early_again = λ next seq frame b k l a h. some _ s.out h s p.src _ (coming next);
      early = λ next seq frame b k l a h. one _ _ (some _ s.out h s p.src _ (coming next)) _ tt;
      taken = λ next frame b k m h. one _ _ (some _ s.out h s p.src _ (coming next)) _ tt;
      taken_whole = λ next frame m b k w h.
          one _ _ (some _ s.out h s p.src _ (coming next)) _ tt;
      taken_broken = λ next frame b k w. tt;
    })

-- ---- a packet

-- what is known of an end that answered a packet, and is this state now
pub record Came (s : EndState) (p : Packet) (new : EndState) (answer : Input) : Type 0 where
  pub goes : GoesBy s new p.src answer
  pub confirms :
      is_confirmed_in new.talk.standing ≡ true → (new.talk ≡ s.talk) ⊎ Confirms s p new
  pub sizes : KeepsSizes s new
  pub window : WindowBy s p new answer
  pub takes : TakesBy s p new answer
  pub below : BelowBy s new answer
  pub sends : SendsPackets s.tx s new p.src
  pub ups : answer ≡ WentUp → p.dst ≡ s.talk.mine.0
  pub downs : answer ≡ WentDown → IsGreater s p ⊎ (IsReset s p ⊎ TakesTo s p Broken)

pub came : (s : EndState) (p : Packet) → Came s p (input_of s p).state (input_of s p).answer
came s p =
    record {
      goes = sessions_rise.input_goes s p;
      confirms = peers_confirm.input s p;
      sizes = sessions_rise.input_sizes s p;
      window = window_by s p;
      takes = takes_by s p;
      below = below_by s p;
      sends = packets_name_sessions.input s p;
      ups = λ e. ((answers_exactly s p).up.0 e).to;
      downs = (answers_exactly s p).down.0;
    }

-- ---- a tick

-- where the session stays, the window and what was received stay, and the pieces that go out are
-- within the window
pub record Beats (s new : EndState) : Type 0 where
  pub window : new.tx ≡ s.tx
  pub receives : ReceivesNothing s new
  pub below : All (IsBelow (sent_end s.tx)) s.out → All (IsBelow (sent_end s.tx)) new.out

abbrev BeatsBy : EndState → EndState → Ticked → Type 0
BeatsBy s new ticks.Stays = Beats s new
BeatsBy s new ticks.WentDown = Unit {0}

beats_by : (s : EndState) → BeatsBy s (tick_of s).state (tick_of s).answer
beats_by s =
    by_tick_rules (λ r. BeatsBy s r.state r.answer) s (record {
      connecting = λ e.
          record {
            window = refl;
            receives = record { receives = refl; held = refl };
            below = λ h. one _ s.out h _ tt;
          };
      lost = λ peer e h. tt;
      again = λ peer e l q.
          record {
            window = refl;
            receives = record { receives = refl; held = refl };
            below = λ h. some _ s.out h s peer _ (window_below s.tx);
          };
      idle = λ peer e l q.
          record {
            window = refl;
            receives = record { receives = refl; held = refl };
            below = λ h. one _ s.out h _ tt;
          };
    })

-- what is known of an end that answered a tick
pub record Beat (s new : EndState) (answer : Ticked) : Type 0 where
  pub goes : GoesByTick s new answer
  pub confirms : is_confirmed_in new.talk.standing ≡ true → new.talk ≡ s.talk
  pub sizes : KeepsSizes s new
  pub stays : BeatsBy s new answer
  pub sends : SendsPackets s.tx s new (peer_or_unknown (peer_of s))

pub beat : (s : EndState) → Beat s (tick_of s).state (tick_of s).answer
beat s =
    record {
      goes = sessions_rise.tick_goes s;
      confirms = peers_confirm.tick s;
      sizes = sessions_rise.tick_sizes s;
      stays = beats_by s;
      sends = packets_name_sessions.tick s;
    }

-- ---- an offer

-- what is known of an end that was offered a message
pub record Offered (s : EndState) (m : Message) (new : EndState) : Type 0 where
  pub goes : GoesOn s new
  pub talk : new.talk ≡ s.talk
  pub sizes : KeepsSizes s new
  pub window : new.tx ≡ with_frames s.tx (pieces_of m s.piece)
  pub receives : ReceivesNothing s new
  pub below : All (IsBelow (sent_end new.tx)) s.out → All (IsBelow (sent_end new.tx)) new.out
  pub sends : SendsPackets new.tx s new (peer_or_unknown (peer_of s))

offer_in_below : (s : EndState) (standing : Standing) (m : Message)
    → All (IsBelow (sent_end (offer_in s standing m).tx)) s.out
    → All (IsBelow (sent_end (offer_in s standing m).tx)) (offer_in s standing m).out
offer_in_below s Connecting m h = h
offer_in_below s (Up peer confirmed) m h =
    some _ s.out h s peer _ (coming_below (with_frames s.tx (pieces_of m s.piece)) s.tx)

offer_below : (s : EndState) (m : Message)
    → All (IsBelow (sent_end (offer_of s m).tx)) s.out
    → All (IsBelow (sent_end (offer_of s m).tx)) (offer_of s m).out
unfolding offer_of
offer_below s m h = offer_in_below s s.talk.standing m h

pub offered : (s : EndState) (m : Message) (peer : Session) → peer_of s ≡ Some peer
    → Offered s m (offer_of s m)
offered s m peer e =
    record {
      goes = sessions_rise.offer_goes s m;
      talk = peers_confirm.offer s m;
      sizes = sessions_rise.offer_sizes s m;
      window = windows_move.offer s m peer e;
      receives = frames_in_turn.offer s m;
      below = offer_below s m;
      sends = packets_name_sessions.offer s m;
    }
