-- Where the frames of a session stand in one list, those in a window, those that are kept and those
-- that are taken are the frames of their numbers in it.
use Rattle.std.proofs.Common.{◌≡◌, ◌+◌, ◌-◌, ◌≤◌, ℕ, zero, suc, Bool, true, false, ltb, Option}
use Rattle.std.proofs.Common.{Some, List, [], ◌∷◌, ◌++◌, All, length, drop, refl, sym, ap, ◌∙◌}
use Rattle.std.proofs.Common.{arith, if◌then◌else◌, slice_get, drop-drop, length-append}
use Rattle.std.proofs.Common.{length-drop}
use Rattle.std.proofs.lemmas.List.{drop-append-le}
use Rattle.std.proofs.lemmas.List.Elements.{All-append, All-cons, All-filter}
use Rattle.linx_base.specs.declared.frame.Frame.{Frame}
use Rattle.linx_base.specs.declared.frame.SentFrame.{SentFrame}
use Rattle.ethcm_window.specs.Sending.{Sender, after_ack, with_frames}
use Rattle.ethcm_window.specs.Receiving.{Receiver, after_taking, early_limit, keeps_number}
use Rattle.ethcm_window.specs.Receiving.{kept_above, kept_below, kept_early}
use Rattle.fragmenter.specs.Joining.{Begun}
use Rattle.ethcm_end.specs.Rules.{take_behind}
use Rattle.ethcm_end.specs.Taking.{AreFrames}
use Rattle.ethcm_end.specs.Windows.{HasFrame}
use Rattle.ethcm_end.proofs.Rising.{by_ack}
use Rattle.ethcm_end.proofs.Taking.{in_order, takes_in_turn}

-- ---- in a window

at_later : {X : Type 0} (k n m : ℕ) (xs : List X) → m ≡ k + n
    → slice_get (drop k xs) n ≡ slice_get xs m
at_later zero n m xs e = let same : n ≡ m = omega arith in rw same refl
at_later (suc k) n m [] e = grind arith
at_later (suc k) n zero (x ∷ xs) e = absurd (omega arith)
at_later (suc k) n (suc m) (x ∷ xs) e = at_later k n m xs (omega arith)

-- the sender has the frames of a session from its base on
abbrev pub HasRest : List Frame → Sender → Type 0
HasRest all tx = (tx.base ≤ length all) × (tx.frames ≡ drop tx.base all)

module _ (all : List Frame) (tx : Sender) (has : HasRest all tx) where
  -- each of them is the frame of its number
  pub window_frame : (n : ℕ) (frame : Frame) → HasFrame tx n frame
      → slice_get all n ≡ Some frame
  window_frame n frame h =
      let from = h.0 in
      sym (ap (λ l. slice_get l (n - tx.base)) has.1
      ∙ at_later tx.base (n - tx.base) n all (omega arith)) ∙ h.1

  -- an offer puts its pieces behind them
  pub offered_rest : (frames : List Frame) → HasRest (all ++ frames) (with_frames tx frames)
  offered_rest frames =
      let within = has.0 in (
        omega (arith, length-append all frames),
        ap (λ l. l ++ frames) has.1 ∙ sym (drop-append-le tx.base all frames within),
      )

  -- an acknowledgement leaves those from its number on
  pub acked_rest : (next : ℕ) → HasRest all (after_ack tx next)
  acked_rest next =
      by_ack (HasRest all) tx next has (λ from to.
      let count = ap (λ (l : List Frame). length l) has.1 ∙ length-drop tx.base all in
      let within = has.0 in
      let number : tx.base + (next - tx.base) ≡ next = omega arith in (
        omega arith,
        ap (λ l. drop (next - tx.base) l) has.1 ∙ drop-drop (next - tx.base) tx.base all
            ∙ ap (λ k. drop k all) number,
      ))

-- ---- kept and taken

either : {X : Type 0} (P : X → Type 0) (b : Bool) (x y : X) → P x → P y → P (if b then x else y)
either P true x y h k = h
either P false x y h k = k

-- a kept early frame is that of its number, where it came so
pub early_named : (f : ℕ → Option Frame) (expected : ℕ) (kept : List SentFrame) (s : SentFrame)
    → AreFrames f kept → f s.number ≡ Some s.frame → AreFrames f (kept_early expected kept s)
early_named f expected kept s are here =
    let P : SentFrame → Type 0 = λ t. f t.number ≡ Some t.frame in
    let below : All P (kept_below s.number kept) =
    All-filter (λ t. ltb t.number s.number) P kept are in
    let above : All P (kept_above s.number kept) =
    All-filter (λ t. ltb s.number t.number) P kept are in
    let among : All P (kept_below s.number kept ++ s ∷ kept_above s.number kept) =
    All-append P (kept_below s.number kept) (s ∷ kept_above s.number kept) below
    (All-cons P s (kept_above s.number kept) here above) in
    either (All P) (ltb s.number (expected + early_limit)) _ kept
    (either (All P) (keeps_number s.number kept) kept _ are among) are

-- the frames that are taken stand in the list from the expected number on, and nothing else is
-- taken
pub taken_in_order : (rx : Receiver) (held : Option Begun) (frame : Frame) (all : List Frame)
    → AreFrames (slice_get all) rx.kept → slice_get all rx.expected ≡ Some frame
    → drop rx.expected all
    ≡ (frame ∷ (takes_in_turn rx held frame).behind)
    ++ drop (take_behind (after_taking rx) held frame).rx.expected all
taken_in_order rx held frame all are here =
    let taking = takes_in_turn rx held frame in
    let frames : List Frame = frame ∷ (takes_in_turn rx held frame).behind in
    let named = taking.named (slice_get all) are here in
    let expected = taking.expected in
    let number : rx.expected + length (frame ∷ (takes_in_turn rx held frame).behind)
    ≡ (take_behind (after_taking rx) held frame).rx.expected = omega arith in
    in_order all rx.expected (frame ∷ (takes_in_turn rx held frame).behind) named.0
    ∙ ap (λ k. frames ++ drop k all) number
