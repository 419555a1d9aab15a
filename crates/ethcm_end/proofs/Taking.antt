-- Each frame that is taken is the one of the expected number.
use Rattle.std.proofs.Common.{◌≡◌, ◌≢◌, ◌⊎◌, ◌+◌, ◌<◌, ℕ, zero, suc, Option, Some, List, [], ◌∷◌}
use Rattle.std.proofs.Common.{◌++◌, All, length, drop, ltb, refl, sym, ap, subst, ◌∙◌, arith, inl}
use Rattle.std.proofs.Common.{inr, slice_get}
use Rattle.std.proofs.lemmas.Bool.Decides.{eqb_tells}
use Rattle.std.proofs.lemmas.List.Elements.{All-nil, All-cons, All-head, All-tail, All-filter}
use Rattle.std.proofs.lemmas.List.Elements.{All-same}
use Rattle.linx_base.specs.declared.frame.Frame.{Frame}
use Rattle.linx_base.specs.declared.frame.SentFrame.{SentFrame}
use Rattle.linx_base.specs.declared.frame.Message.{Message}
use Rattle.ethcm_headers.specs.declared.packets.Packet.{Packet}
use Rattle.ethcm_headers.specs.declared.packets.Part.TheVariants.{Piece}
use Rattle.ethcm_session.specs.declared.standing.Standing.{Standing}
use Rattle.ethcm_session.specs.declared.standing.Standing.TheVariants.{Connecting, Up}
use Rattle.ethcm_window.specs.Sending.{numbered_from, sent_frame}
use Rattle.ethcm_window.specs.Receiving.{Receiver, after_taking, kept_above, kept_early}
use Rattle.fragmenter.specs.declared.joiner.Joined.{Joined}
use Rattle.fragmenter.specs.declared.joiner.Joined.TheVariants.{More, Whole, Broken}
use Rattle.fragmenter.specs.Joining.{Begun, answers_to, held_after, held_after_all, joiner_answer}
use Rattle.ethcm_end.specs.States.{EndState}
use Rattle.ethcm_end.specs.Rules.{Taken, input_of, offer_in, offer_of, take_behind, take_frames}
use Rattle.ethcm_end.specs.Rules.{take_kept, tick_of}
use Rattle.ethcm_end.specs.Rows.{IsBetween}
use Rattle.ethcm_end.proofs.ByRule.{by_rules, by_tick_rules}
use Rattle.ethcm_end.specs.Sessions.{IsAnew}
use Rattle.ethcm_end.specs.Taking.{AreFrames, FramesInTurn, Receives, ReceivesNothing, TakesInTurn}
use Rattle.ethcm_end.specs.Taking.{made_at_the_last}
use Rattle.ethcm_end.proofs.Rising.{begins}

-- ---- kept frames

-- the first of the kept frames hasn't this number
abbrev Misses : ℕ → List SentFrame → Type 0
Misses n kept = (s : SentFrame) (rest : List SentFrame) → kept ≡ s ∷ rest → s.number ≢ n

-- the kept frames that are taken from number n on, where the last one made this
record TurnsFrom (n : ℕ) (kept : List SentFrame) (held : Option Begun) (made : Joined)
    (taken : Taken) : Type 0 where
  pub behind : List Frame
  pub numbers : kept ≡ numbered_from n behind ++ taken.rx.kept
  pub expected : taken.rx.expected ≡ n + length behind
  pub joined : taken.held ≡ held_after_all held behind
  pub answers :
      (frame : Frame) → made ∷ answers_to held behind ≡ made_at_the_last taken.made (frame ∷ behind)
  pub stops : taken.made ≡ More → Misses taken.rx.expected taken.rx.kept

-- none is taken
none_turns : (n : ℕ) (kept : List SentFrame) (held : Option Begun) (made : Joined)
    → (made ≡ More → Misses n kept)
    → TurnsFrom n kept held made
    (record { rx = record { expected = n; kept = kept }; held = held; made = made })
unfolding numbered_from held_after_all answers_to made_at_the_last
none_turns n kept held made stops =
    record {
      behind = [];
      numbers = refl;
      expected = omega arith;
      joined = refl;
      answers = λ frame. refl;
      stops = stops;
    }

-- one is taken, and then those behind it
one_turns : (n : ℕ) (s : SentFrame) (kept : List SentFrame) (held : Option Begun) (taken : Taken)
    → s.number ≡ n
    → TurnsFrom (n + 1) kept (held_after held s.frame) (joiner_answer held s.frame) taken
    → TurnsFrom n (s ∷ kept) held More taken
unfolding numbered_from held_after_all answers_to made_at_the_last
one_turns n s kept held taken e more =
    let same : s ≡ sent_frame n s.frame = ap (λ k. sent_frame k s.frame) e in
    let next : n + 1 ≡ suc n = omega arith in
    let rest : kept ≡ numbered_from (suc n) more.behind ++ taken.rx.kept =
    subst (λ k. kept ≡ numbered_from k more.behind ++ taken.rx.kept) next more.numbers in
    let expected = more.expected in
    record {
      behind = s.frame ∷ more.behind;
      numbers = ap (λ t. t ∷ kept) same ∙ ap (λ l. sent_frame n s.frame ∷ l) rest;
      expected = omega arith;
      joined = more.joined;
      answers = λ frame. ap (λ l. More ∷ l) (more.answers s.frame);
      stops = more.stops;
    }

kept_turns : (n : ℕ) (kept : List SentFrame) (held : Option Begun) (made : Joined)
    → TurnsFrom n kept held made (take_kept n kept held made)
unfolding take_kept
kept_turns n [] held More = none_turns n [] held More (λ m t rest q. absurd (grind arith))
kept_turns n [] held (Whole m) = none_turns n [] held (Whole m) (λ e. absurd cc)
kept_turns n [] held Broken = none_turns n [] held Broken (λ e. absurd cc)
kept_turns n (s ∷ kept) held (Whole m) = none_turns n (s ∷ kept) held (Whole m) (λ e. absurd cc)
kept_turns n (s ∷ kept) held Broken = none_turns n (s ∷ kept) held Broken (λ e. absurd cc)
kept_turns n (s ∷ kept) held More =
    elim (eqb_tells s.number n) [
      | inl same ↦
          rw same.0 (one_turns n s kept held _ same.1
          (kept_turns (n + 1) kept (held_after held s.frame) (joiner_answer held s.frame)))
      | inr other ↦
          rw other.0 (none_turns n (s ∷ kept) held More (λ m t rest q.
          let same : s ≡ t = grind arith in
          subst (λ (x : SentFrame). x.number ≢ n) same other.1))
    ]

-- ---- frames of their numbers

module _ {X : Type 0} (P : X → Type 0) where
  front_and_rest : (xs ys : List X) → All P (xs ++ ys) → All P xs × All P ys
  front_and_rest [] ys all = (All-nil P, all)
  front_and_rest (x ∷ xs) ys all =
      let more = front_and_rest xs ys (All-tail P x (xs ++ ys) all) in
      (All-cons P x xs (All-head P x (xs ++ ys) all) more.0, more.1)

-- the element at a place, and the rest behind it
pub drop_here : {X : Type 0} (n : ℕ) (all : List X) (x : X) → slice_get all n ≡ Some x
    → drop n all ≡ x ∷ drop (suc n) all
drop_here zero [] x e = absurd (grind arith)
drop_here zero (y ∷ ys) x e = grind arith
drop_here (suc n) [] x e = absurd (grind arith)
drop_here (suc n) (y ∷ ys) x e = drop_here n ys x e

-- frames that are those of their numbers in a list stand there in order
pub in_order : (all : List Frame) (n : ℕ) (frames : List Frame)
    → AreFrames (slice_get all) (numbered_from n frames)
    → drop n all ≡ frames ++ drop (n + length frames) all
unfolding numbered_from
in_order all n [] are = let same : n + 0 ≡ n = omega arith in rw same refl
in_order all n (f ∷ fs) are =
    let P : SentFrame → Type 0 = λ s. slice_get all s.number ≡ Some s.frame in
    let here = All-head P (sent_frame n f) (numbered_from (suc n) fs) are in
    let rest = All-tail P (sent_frame n f) (numbered_from (suc n) fs) are in
    let number : suc n + length fs ≡ n + suc (length fs) = omega arith in
    drop_here n all f here ∙ ap (λ l. f ∷ l) (in_order all (suc n) fs rest
    ∙ ap (λ k. fs ++ drop k all) number)

-- ---- a frame of the expected number

module _ (rx : Receiver) (held : Option Begun) (frame : Frame) where
  behind_turns : TurnsFrom (rx.expected + 1) (kept_above rx.expected rx.kept)
      (held_after held frame) (joiner_answer held frame) (take_behind (after_taking rx) held frame)
  behind_turns =
      kept_turns (rx.expected + 1) (kept_above rx.expected rx.kept) (held_after held frame)
      (joiner_answer held frame)

  named : (f : ℕ → Option Frame) → AreFrames f rx.kept → f rx.expected ≡ Some frame
      → AreFrames f (numbered_from rx.expected (frame ∷ behind_turns.behind))
      × AreFrames f (take_behind (after_taking rx) held frame).rx.kept
  unfolding numbered_from
  named f kept here =
      let P : SentFrame → Type 0 = λ s. f s.number ≡ Some s.frame in
      let above : All P (kept_above rx.expected rx.kept) =
      All-filter (λ s. ltb rx.expected s.number) P rx.kept kept in
      let next : rx.expected + 1 ≡ suc rx.expected = omega arith in
      let split : kept_above rx.expected rx.kept
      ≡ numbered_from (suc rx.expected) behind_turns.behind
      ++ (take_behind (after_taking rx) held frame).rx.kept =
      subst (λ k. kept_above rx.expected rx.kept ≡ numbered_from k behind_turns.behind
      ++ (take_behind (after_taking rx) held frame).rx.kept) next behind_turns.numbers in
      let both = front_and_rest P (numbered_from (suc rx.expected) behind_turns.behind) _
      (All-same P _ _ (sym split) above) in
      (All-cons P (sent_frame rx.expected frame) _ here both.0, both.1)

  pub takes_in_turn : TakesInTurn rx held frame (take_behind (after_taking rx) held frame)
  unfolding held_after_all answers_to
  takes_in_turn =
      let expected = behind_turns.expected in
      record {
        behind = behind_turns.behind;
        numbers = behind_turns.numbers;
        expected = omega arith;
        joined = behind_turns.joined;
        answers = behind_turns.answers frame;
        stops = behind_turns.stops;
        named = named;
      }

-- ---- what a packet lets an end take

module _ (s : EndState) (p : Packet) (new : EndState) where
  nothing : new.rx ≡ s.rx → new.held ≡ s.held → Receives s p new
  nothing rx held = inl (record { receives = rx; held = held })

  anew : IsAnew new → Receives s p new
  anew is = inr (inl is)

  keeps : IsBetween s p → (next n : ℕ) (frame : Frame) → p.part ≡ Piece next n frame
      → s.rx.expected < n
      → new.rx ≡ record s.rx { kept = kept_early s.rx.expected s.rx.kept (sent_frame n frame) }
      → new.held ≡ s.held → Receives s p new
  keeps b next n frame k early rx held =
      inr (inr (inl (record {
        between = b;
        next = next;
        n = n;
        frame = frame;
        piece = k;
        early = early;
        receives = rx;
        held = held;
      })))

  takes : IsBetween s p → (next : ℕ) (frame : Frame) → p.part ≡ Piece next s.rx.expected frame
      → new.rx ≡ (take_frames s frame).rx → new.held ≡ (take_frames s frame).held
      → Receives s p new
  takes b next frame k rx held =
      inr (inr (inr (record {
        between = b;
        next = next;
        frame = frame;
        piece = k;
        receives = rx;
        held = held;
      })))

input_receives : (s : EndState) (p : Packet) → Receives s p (input_of s p).state
input_receives s p =
    by_rules (λ r. Receives s p r.state) s p (record {
      connecting_connect = λ e k. nothing s p _ refl refl;
      connecting_connect_ack = λ e k d. anew s p _ (begins _ refl refl refl refl refl);
      connecting_ack = λ e k d. anew s p _ (begins _ refl refl refl refl refl);
      connecting_other = λ e a b c. nothing s p s refl refl;
      up_lower = λ peer e h. nothing s p s refl refl;
      up_greater = λ peer e h. anew s p _ (begins _ refl refl refl refl refl);
      up_connect = λ e k. nothing s p _ refl refl;
      up_not_mine = λ e k d. nothing s p s refl refl;
      up_reset = λ b k. anew s p _ (begins _ refl refl refl refl refl);
      up_connect_ack = λ b k. nothing s p _ refl refl;
      up_ack = λ b k. nothing s p _ refl refl;
      frames_acked = λ next b k. nothing s p _ refl refl;
      frames_missed = λ next count b k. nothing s p _ refl refl;
      old = λ next seq frame b k h. nothing s p _ refl refl;
      early_again = λ next seq frame b k h a. keeps s p _ b next seq frame k h refl refl;
      early = λ next seq frame b k h a. keeps s p _ b next seq frame k h refl refl;
      taken = λ next frame b k m. takes s p _ b next frame k refl refl;
      taken_whole = λ next frame m b k w. takes s p _ b next frame k refl refl;
      taken_broken = λ next frame b k w. anew s p _ (begins _ refl refl refl refl refl);
    })

tick_receives : (s : EndState) → ReceivesNothing s (tick_of s).state ⊎ IsAnew (tick_of s).state
tick_receives s =
    by_tick_rules (λ r. ReceivesNothing s r.state ⊎ IsAnew r.state) s (record {
      connecting = λ e. inl (record { receives = refl; held = refl });
      lost = λ peer e h. inr (begins _ refl refl refl refl refl);
      again = λ peer e h q. inl (record { receives = refl; held = refl });
      idle = λ peer e h q. inl (record { receives = refl; held = refl });
    })

offer_in_receives : (s : EndState) (standing : Standing) (m : Message)
    → ReceivesNothing s (offer_in s standing m)
offer_in_receives s Connecting m = record { receives = refl; held = refl }
offer_in_receives s (Up peer confirmed) m = record { receives = refl; held = refl }

offer_receives : (s : EndState) (m : Message) → ReceivesNothing s (offer_of s m)
unfolding offer_of
offer_receives s m = offer_in_receives s s.talk.standing m

pub frames_in_turn : FramesInTurn
frames_in_turn =
    record {
      takes = takes_in_turn;
      input = input_receives;
      tick = tick_receives;
      offer = offer_receives;
    }
