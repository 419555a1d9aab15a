-- A session never falls, and rises exactly where the end goes down.
use Rattle.std.proofs.Common.{◌≡◌, ◌+◌, ◌-◌, ◌<◌, ◌≤◌, ◌&&◌, leb, ℕ, Bool, true, false, Option}
use Rattle.std.proofs.Common.{Some, None, List, [], ◌∷◌, drop, refl, sym, ap, ◌∙◌, arith, inl, inr}
use Rattle.std.proofs.Common.{if◌then◌else◌, leb-true}
use Rattle.std.proofs.lemmas.Bool.Decides.{eqb_tells}
use Rattle.linx_base.specs.declared.identity.Session.{Session}
use Rattle.linx_base.specs.Numbers.{boot_of, next_session}
use Rattle.linx_base.specs.declared.frame.Frame.{Frame}
use Rattle.linx_base.specs.declared.frame.Message.{Message}
use Rattle.linx_base.specs.declared.frame.SentFrame.{SentFrame}
use Rattle.ethcm_headers.specs.declared.packets.Packet.{Packet}
use Rattle.ethcm_session.specs.declared.standing.Standing.{Standing}
use Rattle.ethcm_session.specs.declared.standing.Standing.TheVariants.{Connecting, Up}
use Rattle.ethcm_session.specs.declared.standing.TalkState.{TalkState}
use Rattle.ethcm_session.specs.Table.{standing_peer, up_with}
use Rattle.ethcm_window.specs.Sending.{Sender, after_ack, empty_sender, sent_end}
use Rattle.ethcm_window.specs.Receiving.{empty_receiver}
use Rattle.fragmenter.specs.declared.joiner.Joined.{Joined}
use Rattle.fragmenter.specs.declared.joiner.Joined.TheVariants.{More}
use Rattle.fragmenter.specs.Joining.{Begun, held_after, joiner_answer}
use Rattle.ethcm_end.specs.declared.answers.Input.{Input}
use Rattle.ethcm_end.specs.declared.answers.Input.TheVariants.{Nothing, WentUp, WentDown, Got}
use Rattle.ethcm_end.specs.declared.answers.Ticked.{Ticked}
use Rattle.ethcm_end.specs.declared.answers.Ticked.TheVariants as ticks
use Rattle.ethcm_end.specs.States.{EndState, peer_of}
use Rattle.ethcm_end.specs.Rules.{Taken, input_of, offer_in, offer_of, restart_of, take_frames}
use Rattle.ethcm_end.specs.Rules.{take_kept, tick_of}
use Rattle.ethcm_end.specs.Rows.{IsBetween}
use Rattle.ethcm_end.proofs.ByRule.{by_rules, by_tick_rules}
use Rattle.ethcm_end.specs.Sessions.{GoesBy, GoesByTick, GoesDown, GoesOn, GoesUp, IsAnew}
use Rattle.ethcm_end.specs.Sessions.{KeepsSizes, Rises, SessionsRise}

same_number : (n : ℕ) → n ≤ n
same_number n = omega arith

-- ---- the expected number

taken_expected : (n : ℕ) (kept : List SentFrame) (held : Option Begun) (made : Joined)
    → n ≤ (take_kept n kept held made).rx.expected
unfolding take_kept
taken_expected n [] held More = omega arith
taken_expected n (s ∷ kept) held More =
    elim (eqb_tells s.number n) [
      | inl same ↦
          let more =
          taken_expected (n + 1) kept (held_after held s.frame) (joiner_answer held s.frame) in
          rw same.0 (omega arith)
      | inr other ↦ rw other.0 (same_number n)
    ]
taken_expected n _ held _ = omega arith

pub frames_expected : (s : EndState) (frame : Frame)
    → s.rx.expected ≤ (take_frames s frame).rx.expected
frames_expected s frame =
    let taken : Taken = take_frames s frame in
    let more : s.rx.expected + 1 ≤ taken.rx.expected =
    taken_expected (s.rx.expected + 1) _ (held_after s.held frame) (joiner_answer s.held frame) in
    omega arith

-- ---- where the session goes

pub begins : (s : EndState) → s.tx ≡ empty_sender s.tx.window → s.rx ≡ empty_receiver
    → s.held ≡ None → s.ticks ≡ 0 → s.asked ≡ false → IsAnew s
begins s tx rx held count asked =
    record { sends = tx; receives = rx; outside = held; ticks = count; not_asked = asked }

module _ (old new : EndState) where
  on : new.talk.mine ≡ old.talk.mine → peer_of new ≡ peer_of old
      → old.rx.expected ≤ new.rx.expected → GoesOn old new
  on mine peer expected = record { session = mine; peer = peer; expected = expected }

  up : (peer : Session) → new.talk.mine ≡ old.talk.mine → peer_of old ≡ None
      → peer_of new ≡ Some peer → IsAnew new → GoesUp old new peer
  up peer mine was is_peer is =
      record { session = mine; was_connecting = was; peer = is_peer; anew = is }

  pub down : (peer : Session) → peer_of old ≡ Some peer → new.talk.mine ≡ next_session old.talk.mine
      → peer_of new ≡ None → IsAnew new → GoesDown old new
  down peer was mine none is =
      record { was_up = (peer, was); session = mine; connecting = none; anew = is }

-- an end that heard its peer goes on with it
hears : (s new : EndState) (p : Packet) → IsBetween s p → new.talk ≡ up_with s.talk p.src true
    → s.rx.expected ≤ new.rx.expected → GoesOn s new
hears s new p between talk expected =
    on s new (ap (λ (t : TalkState). t.mine) talk)
    (ap (λ (t : TalkState). standing_peer t.standing) talk ∙ sym between.from) expected

pub input_goes : (s : EndState) (p : Packet)
    → GoesBy s (input_of s p).state p.src (input_of s p).answer
input_goes s p =
    let same : s.rx.expected ≤ s.rx.expected = same_number s.rx.expected in
    by_rules (λ r. GoesBy s r.state p.src r.answer) s p (record {
      connecting_connect = λ e k. on s _ refl refl same;
      connecting_connect_ack = λ e k d.
          up s _ p.src refl e refl (begins _ refl refl refl refl refl);
      connecting_ack = λ e k d.
          up s _ p.src refl e refl (begins _ refl refl refl refl refl);
      connecting_other = λ e a b c. on s s refl refl same;
      up_lower = λ peer e h. on s s refl refl same;
      up_greater = λ peer e h. down s _ peer e refl refl (begins _ refl refl refl refl refl);
      up_connect = λ e k. on s _ refl refl same;
      up_not_mine = λ e k d. on s s refl refl same;
      up_reset = λ b k. down s _ p.src b.from refl refl (begins _ refl refl refl refl refl);
      up_connect_ack = λ b k. on s _ refl refl same;
      up_ack = λ b k. hears s _ p b refl same;
      frames_acked = λ next b k. hears s _ p b refl same;
      frames_missed = λ next count b k. hears s _ p b refl same;
      old = λ next seq frame b k h. hears s _ p b refl same;
      early_again = λ next seq frame b k h a. hears s _ p b refl same;
      early = λ next seq frame b k h a. hears s _ p b refl same;
      taken = λ next frame b k m. hears s _ p b refl (frames_expected s frame);
      taken_whole = λ next frame m b k w.
          (hears s _ p b refl (frames_expected s frame), (b.from, refl));
      taken_broken = λ next frame b k w.
          down s _ p.src b.from refl refl (begins _ refl refl refl refl refl);
    })

pub tick_goes : (s : EndState) → GoesByTick s (tick_of s).state (tick_of s).answer
tick_goes s =
    let same : s.rx.expected ≤ s.rx.expected = same_number s.rx.expected in
    by_tick_rules (λ r. GoesByTick s r.state r.answer) s (record {
      connecting = λ e. on s _ refl refl same;
      lost = λ peer e h. down s _ peer e refl refl (begins _ refl refl refl refl refl);
      again = λ peer e h q. on s _ refl refl same;
      idle = λ peer e h q. on s _ refl refl same;
    })

offer_in_goes : (s : EndState) (standing : Standing) (m : Message)
    → GoesOn s (offer_in s standing m)
offer_in_goes s Connecting m = on s s refl refl (same_number s.rx.expected)
offer_in_goes s (Up peer confirmed) m = on s _ refl refl (same_number s.rx.expected)

offer_goes : (s : EndState) (m : Message) → GoesOn s (offer_of s m)
unfolding offer_of
offer_goes s m = offer_in_goes s s.talk.standing m

-- ---- the session's number

module _ (down : Type 0) (old new : EndState) where
  stays : (down → ⊥) → new.talk.mine ≡ old.talk.mine → Rises down old new
  stays other e =
      let n = ap (λ (s : Session). s.0) e in
      record {
        never_falls = omega arith;
        rises = (λ h. absurd (omega arith), λ h. absurd (other h));
      }

  rises : down → new.talk.mine ≡ next_session old.talk.mine → Rises down old new
  rises is e =
      let n = ap (λ (s : Session). s.0) e in
      record { never_falls = omega arith; rises = (λ h. is, λ h. omega arith) }

input_rises : (old new : EndState) (src : Session) (answer : Input) → GoesBy old new src answer
    → Rises (answer ≡ WentDown) old new
input_rises old new src Nothing h = stays _ old new (λ e. cc) h.session
input_rises old new src WentUp h = stays _ old new (λ e. cc) h.session
input_rises old new src WentDown h = rises _ old new refl h.session
input_rises old new src (Got m) h = stays _ old new (λ e. cc) h.0.session

tick_rises : (old new : EndState) (answer : Ticked) → GoesByTick old new answer
    → Rises (answer ≡ ticks.WentDown) old new
tick_rises old new ticks.Stays h = stays _ old new (λ e. cc) h.session
tick_rises old new ticks.WentDown h = rises _ old new refl h.session

restart_rises : (s : EndState) (boot : ℕ) → boot_of s.talk.mine < boot
    → s.talk.mine.0 < (restart_of s boot).talk.mine.0
restart_rises s boot h = omega arith

-- ---- sizes

-- what holds of a sender, and of it with a later base, holds of it after an acknowledgement
pub by_ack : (P : Sender → Type 0) (tx : Sender) (next : ℕ) → P tx
    → (tx.base ≤ next → next ≤ sent_end tx
    → P (record tx { base = next; frames = drop (next - tx.base) tx.frames }))
    → P (after_ack tx next)
by_ack P tx next was moves =
    let moved : Sender = record tx { base = next; frames = drop (next - tx.base) tx.frames } in
    let by : (a b : Bool) → leb tx.base next ≡ a → leb next (sent_end tx) ≡ b
    → P (if a && b then moved else tx) =
    λ a b. elim a as (λ v. leb tx.base next ≡ v → leb next (sent_end tx) ≡ b
    → P (if v && b then moved else tx)) [
      | true ↦ λ l. elim b as (λ v. leb next (sent_end tx) ≡ v → P (if v then moved else tx)) [
        | true ↦ λ m. moves (leb-true _ _ l) (leb-true _ _ m)
        | false ↦ λ m. was
      ]
      | false ↦ λ l m. was
    ] in
    by (leb tx.base next) (leb next (sent_end tx)) refl refl

sizes : (s new : EndState) → new.tx.window ≡ s.tx.window → new.piece ≡ s.piece → KeepsSizes s new
sizes s new w q = record { window = w; piece = q }

pub input_sizes : (s : EndState) (p : Packet) → KeepsSizes s (input_of s p).state
input_sizes s p =
    let acked : (next : ℕ) → (after_ack s.tx next).window ≡ s.tx.window =
    λ next. by_ack (λ tx. tx.window ≡ s.tx.window) s.tx next refl (λ l h. refl) in
    by_rules (λ r. KeepsSizes s r.state) s p (record {
      connecting_connect = λ e k. sizes s _ refl refl;
      connecting_connect_ack = λ e k d. sizes s _ refl refl;
      connecting_ack = λ e k d. sizes s _ refl refl;
      connecting_other = λ e a b c. sizes s _ refl refl;
      up_lower = λ peer e h. sizes s _ refl refl;
      up_greater = λ peer e h. sizes s _ refl refl;
      up_connect = λ e k. sizes s _ refl refl;
      up_not_mine = λ e k d. sizes s _ refl refl;
      up_reset = λ b k. sizes s _ refl refl;
      up_connect_ack = λ b k. sizes s _ refl refl;
      up_ack = λ b k. sizes s _ refl refl;
      frames_acked = λ next b k. sizes s _ (acked next) refl;
      frames_missed = λ next count b k. sizes s _ (acked next) refl;
      old = λ next seq frame b k h. sizes s _ (acked next) refl;
      early_again = λ next seq frame b k h a. sizes s _ (acked next) refl;
      early = λ next seq frame b k h a. sizes s _ (acked next) refl;
      taken = λ next frame b k m. sizes s _ (acked next) refl;
      taken_whole = λ next frame m b k w. sizes s _ (acked next) refl;
      taken_broken = λ next frame b k w. sizes s _ (acked next) refl;
    })

tick_sizes : (s : EndState) → KeepsSizes s (tick_of s).state
tick_sizes s =
    by_tick_rules (λ r. KeepsSizes s r.state) s (record {
      connecting = λ e. sizes s _ refl refl;
      lost = λ peer e h. sizes s _ refl refl;
      again = λ peer e h q. sizes s _ refl refl;
      idle = λ peer e h q. sizes s _ refl refl;
    })

offer_in_sizes : (s : EndState) (standing : Standing) (m : Message)
    → KeepsSizes s (offer_in s standing m)
offer_in_sizes s Connecting m = sizes s _ refl refl
offer_in_sizes s (Up peer confirmed) m = sizes s _ refl refl

offer_sizes : (s : EndState) (m : Message) → KeepsSizes s (offer_of s m)
unfolding offer_of
offer_sizes s m = offer_in_sizes s s.talk.standing m

pub sessions_rise : SessionsRise
sessions_rise =
    record {
      input = λ s p. input_rises _ _ p.src _ (input_goes s p);
      input_goes = input_goes;
      tick = λ s. tick_rises _ _ _ (tick_goes s);
      tick_goes = tick_goes;
      offer_goes = offer_goes;
      restart = restart_rises;
      restart_anew = λ s boot. begins _ refl refl refl refl refl;
      input_sizes = input_sizes;
      tick_sizes = tick_sizes;
      offer_sizes = offer_sizes;
      restart_sizes = λ s boot. sizes s _ refl refl;
    }
