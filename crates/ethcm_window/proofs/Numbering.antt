-- Which frames come into a window, and with which numbers.
use Rattle.std.proofs.Common.{◌≡◌, ℕ, zero, suc, ◌+◌, ◌-◌, ◌<◌, ◌≤◌, min, List, [], ◌∷◌, ◌++◌}
use Rattle.std.proofs.Common.{length, take, drop, get_or, refl, ap, sym, ◌∙◌, arith, ◌⊎◌, inl, inr}
use Rattle.std.proofs.Common.{add-zero, leb, true, false, Result, Ok, Err, IfOk, take_all}
use Rattle.std.proofs.Common.{take-take, drop_at, drop-drop, length-take, length-drop, get_or-drop}
use Rattle.std.proofs.lemmas.List.{take_more, take_min, drop_all}
use Rattle.std.proofs.lemmas.Bool.Decides.{nat_tests}
use Rattle.linx_base.specs.declared.memory.NoMemory.{NoMemory}
use Rattle.linx_base.specs.declared.frame.Frame.{Frame}
use Rattle.linx_base.specs.declared.frame.SentFrame.{SentFrame}
use Rattle.ethcm_window.specs.Sending.{Sender, sent_frame, numbered_from, from_number, sent_of}
use Rattle.ethcm_window.specs.Sending.{coming_in, sent_again}

le_cases : (a b : ℕ) → (a ≤ b) ⊎ (b ≤ a)
le_cases a b = grind arith

-- ---- numbered frames

-- frames and then one more
numbered-push : (n : ℕ) (fs : List Frame) (f : Frame)
    → numbered_from n (fs ++ f ∷ []) ≡ numbered_from n fs ++ sent_frame (n + length fs) f ∷ []
unfolding numbered_from
numbered-push n [] f = rw add-zero refl
numbered-push n (g ∷ fs) f =
    let here : suc n + length fs ≡ n + suc (length fs) = omega arith in
    ap (λ sent. sent_frame n g ∷ sent) (numbered-push (suc n) fs f
    ∙ ap (λ k. numbered_from (suc n) fs ++ sent_frame k f ∷ []) here)

take-numbered : (k n : ℕ) (fs : List Frame)
    → take k (numbered_from n fs) ≡ numbered_from n (take k fs)
unfolding numbered_from
take-numbered zero n fs = refl
take-numbered (suc k) n [] = refl
take-numbered (suc k) n (f ∷ fs) = ap (λ sent. sent_frame n f ∷ sent) (take-numbered k (suc n) fs)

-- nothing has no numbers
pub no_frames : (n : ℕ) (fs : List Frame) → fs ≡ [] → numbered_from n fs ≡ []
unfolding numbered_from
no_frames n fs e = rw e refl

both_empty : (n m : ℕ) (xs ys : List Frame) → xs ≡ [] → ys ≡ []
    → numbered_from n xs ≡ numbered_from m ys
both_empty n m xs ys e q = no_frames n xs e ∙ sym (no_frames m ys q)

-- a copy of one more frame, with its number
pub numbered_more : (n place k : ℕ) (fs : List Frame) (f : Frame)
    → place + k < length fs → f ≡ get_or fs (place + k) f
    → numbered_from n (take (k + 1) (drop place fs))
    ≡ numbered_from n (take k (drop place fs)) ++ sent_frame (n + k) f ∷ []
numbered_more n place k fs f within read =
    let rest : List Frame = drop place fs in
    let more = take_more (drop place fs) k f (omega (arith, length-drop place fs)) in
    let here : get_or (drop place fs) k f ≡ f = get_or-drop place fs k f ∙ sym read in
    let last : n + length (take k (drop place fs)) ≡ n + k =
    omega (arith, length-take k (drop place fs), length-drop place fs) in
    rw (more, here) (numbered-push n (take k rest) f
    ∙ ap (λ m. numbered_from n (take k rest) ++ sent_frame m f ∷ []) last)

-- ---- the numbers from one on

-- no number is below the first one
from_low : (k n : ℕ) (fs : List Frame) → k ≤ n
    → from_number k (numbered_from n fs) ≡ numbered_from n fs
unfolding numbered_from
from_low k n [] h = refl
from_low k n (f ∷ fs) h =
    let rest : from_number k (numbered_from (suc n) fs) ≡ numbered_from (suc n) fs =
    from_low k (suc n) fs (omega arith) in
    let low : leb k n ≡ true = grind (arith, nat_tests) in
    rw (low, rest) refl

-- the frames from the k-th on
from_later : (k n m : ℕ) (fs : List Frame) → m ≡ n + k
    → from_number m (numbered_from n fs) ≡ numbered_from m (drop k fs)
unfolding numbered_from
from_later zero n m fs e =
    let same : n ≡ m = omega arith in
    from_low m n fs (omega arith) ∙ ap (λ j. numbered_from j fs) same
from_later (suc k) n m [] e = refl
from_later (suc k) n m (f ∷ fs) e =
    let high : leb m n ≡ false = grind (arith, nat_tests) in
    rw high (from_later k (suc n) m fs (omega arith))

from_any : (next b : ℕ) (fs : List Frame)
    → from_number next (numbered_from b fs) ≡ numbered_from (b + (next - b)) (drop (next - b) fs)
from_any next b fs =
    elim (le_cases b next) [
      | inl le ↦
          let e : next ≡ b + (next - b) = omega arith in
          from_later (next - b) b next fs e ∙ ap (λ n. numbered_from n (drop (next - b) fs)) e
      | inr le ↦ let e : next - b ≡ 0 = omega arith in rw (e, add-zero) (from_low next b fs le)
    ]

-- ---- fronts of a rest

take-nil : {X : Type 0} (k : ℕ) (xs : List X) → xs ≡ [] → take k xs ≡ []
take-nil zero xs e = refl
take-nil (suc k) xs e = rw e refl

take_none : {X : Type 0} (k : ℕ) (xs : List X) → k ≡ 0 → take k xs ≡ []
take_none k xs e = rw e refl

drop-take_any : {X : Type 0} (k w : ℕ) (xs : List X) → drop k (take w xs) ≡ take (w - k) (drop k xs)
drop-take_any zero w xs = grind arith
drop-take_any (suc k) zero xs = let none : 0 - suc k ≡ 0 = omega arith in rw none refl
drop-take_any (suc k) (suc w) [] = sym (take-nil (suc w - suc k) [] refl)
drop-take_any (suc k) (suc w) (x ∷ xs) =
    let e : suc w - suc k ≡ w - k = omega arith in rw e (drop-take_any k w xs)

take_twice : {X : Type 0} (m n : ℕ) (xs : List X) → take m (take n xs) ≡ take (min n m) xs
take_twice m n xs =
    elim (le_cases m n) [
      | inl le ↦ let k : min n m ≡ m = omega arith in rw k (take-take m n xs le)
      | inr le ↦
          let k : min n m ≡ n = omega arith in
          rw k (take_all m (take n xs) (omega (arith, length-take n xs)))
    ]

-- ---- the window of a sender

-- what a sender's queue shows of it now
abbrev pub sender_now : ℕ → ℕ → ℕ → List Frame → Sender
sender_now window base gone frames =
    record { window = window; base = base; frames = drop gone frames }

-- the frames in the window from the k-th on
in_window : (n k w : ℕ) (fs : List Frame)
    → from_number (n + k) (numbered_from n (take w fs))
    ≡ numbered_from (n + k) (take (w - k) (drop k fs))
in_window n k w fs =
    from_later k n (n + k) (take w fs) refl
    ∙ ap (λ xs. numbered_from (n + k) xs) (drop-take_any k w fs)

module _ (tx : Sender) (sent : ℕ) (s : sent ≡ sent_of tx) where
  -- the frames that aren't sent
  abbrev waiting : List Frame
  waiting = drop sent tx.frames

  -- of them follow into the window as many as leave it
  following : (d j : ℕ) → d + j ≡ sent
      → take (tx.window - j) waiting ≡ take (min (length tx.frames - sent) d) waiting
  following d j e =
      elim (le_cases (length tx.frames) tx.window) [
        | inl all ↦
            let none : drop sent tx.frames ≡ [] = drop_all sent tx.frames (omega arith) in
            take-nil _ _ none ∙ sym (take-nil _ _ none)
        | inr more ↦
            let n : tx.window - j ≡ d = omega arith in
            let k : min (length tx.frames - sent) d ≡ min d (length (drop sent tx.frames)) =
            omega (arith, length-drop sent tx.frames) in
            rw (n, k) (sym (take_min d (drop sent tx.frames)))
      ]

  -- what `offer` answers
  pub offered_answer : (next coming : ℕ) (offered frames : List Frame) (answer : List SentFrame)
      → next ≡ tx.base + length tx.frames → coming ≡ min (tx.window - sent) (length offered)
      → frames ≡ tx.frames ++ offered → answer ≡ numbered_from next (take coming offered)
      → answer ≡ coming_in tx (record tx { frames = frames })
  offered_answer next coming offered frames answer n c f a =
      a ∙ rw (n, c, f, ← s) (sym (in_window tx.base sent tx.window (tx.frames ++ offered)
      ∙ elim (le_cases (length tx.frames) tx.window) [
        | inl fits ↦
            let k : sent ≡ length tx.frames = omega arith in
            let rest : drop sent (tx.frames ++ offered) ≡ offered =
            drop_at tx.frames offered sent (sym k) in
            rw (rest, take_min (tx.window - sent) offered, k) refl
        | inr full ↦
            let none : tx.window - sent ≡ 0 = omega arith in
            both_empty _ _ _ _ (take_none _ _ none) (take_none _ _ (omega arith))
      ]))

  -- what comes into the window as the first d frames are acknowledged
  acked_coming : (d j : ℕ) → d + j ≡ sent
      → from_number (tx.base + d + j)
      (numbered_from (tx.base + d) (take tx.window (drop d tx.frames)))
      ≡ numbered_from (tx.base + d + j) (take (min (length tx.frames - sent) d) waiting)
  acked_coming d j e =
      let rest : drop j (drop d tx.frames) ≡ drop sent tx.frames =
      drop-drop j d tx.frames ∙ ap (λ k. drop k tx.frames) e in
      in_window (tx.base + d) j tx.window (drop d tx.frames)
      ∙ ap (λ xs. numbered_from (tx.base + d + j) xs)
      (ap (λ xs. take (tx.window - j) xs) rest ∙ following d j e)

  -- what `acked` answers
  pub acked_answer : (next coming : ℕ) (frames : List Frame) (answer : List SentFrame)
      → tx.base ≤ next → next - tx.base ≤ sent
      → coming ≡ min (length tx.frames - sent) (next - tx.base)
      → frames ≡ drop (next - tx.base) tx.frames
      → answer ≡ numbered_from (tx.base + sent) (take coming waiting)
      → answer ≡ coming_in tx (record tx { base = next; frames = frames })
  acked_answer next coming frames answer from to c f a =
      let d : ℕ = next - tx.base in
      let base : tx.base + (next - tx.base) ≡ next = omega arith in
      let last : tx.base + (next - tx.base) + (sent - (next - tx.base)) ≡ tx.base + sent =
      omega arith in
      let all = rw (last, base) at (acked_coming (next - tx.base) (sent - d) (omega arith)) in
      a ∙ rw (c, f, ← s) (sym all)

  -- nothing comes into a window that stays
  pub unchanged_coming : [] ≡ coming_in tx tx
  unchanged_coming =
      let none : take (tx.window - sent) (drop sent tx.frames) ≡ [] =
      elim (le_cases (length tx.frames) tx.window) [
        | inl all ↦ take-nil _ _ (drop_all sent tx.frames (omega arith))
        | inr more ↦ take_none _ _ (omega arith)
      ] in
      rw (← s) (sym (in_window tx.base sent tx.window tx.frames ∙ no_frames _ _ none))

  -- the frames to send again from the k-th on
  again_from : (k count from : ℕ) → from ≡ min sent k
      → numbered_from (tx.base + k) (take (min (tx.window - k) count) (drop k tx.frames))
      ≡ numbered_from (tx.base + from) (take (min (sent - from) count) (drop from tx.frames))
  again_from k count from f =
      elim (le_cases k sent) [
        | inl le ↦
            let e : from ≡ k = omega arith in
            let w : ℕ = min (tx.window - k) count in
            let n : min (sent - k) count ≡ min w (length (drop k tx.frames)) =
            omega (arith, length-drop k tx.frames) in
            rw (e, n, take_min w (drop k tx.frames)) refl
        | inr le ↦
            let none : take (min (sent - from) count) (drop from tx.frames) ≡ [] =
            take_none _ _ (omega arith) in
            elim (le_cases (length tx.frames) tx.window) [
              | inl all ↦
                  both_empty _ _ _ _ (take-nil _ _ (drop_all k tx.frames (omega arith))) none
              | inr more ↦ both_empty _ _ _ _ (take_none _ _ (omega arith)) none
            ]
      ]

  -- what `resend` answers
  pub resend_answer :
      (next count from again : ℕ) (result : Result (List SentFrame) NoMemory)
      → from ≡ min sent (next - tx.base) → again ≡ min (sent - from) count
      → IfOk result (λ a. a ≡ numbered_from (tx.base + from) (take again (drop from tx.frames)))
      → IfOk result (λ a. a ≡ sent_again tx next count)
  resend_answer next count from again (Err e) f a h = tt
  resend_answer next count from again (Ok answer) f a h =
      let k : ℕ = next - tx.base in
      let first = from_any next tx.base (take tx.window tx.frames) in
      let front = take-numbered count (tx.base + k) (drop k (take tx.window tx.frames)) in
      let frames = ap (λ xs. take count xs) (drop-take_any k tx.window tx.frames)
      ∙ take_twice count (tx.window - k) (drop k tx.frames) in
      let all = ap (λ xs. take count xs) first ∙ front
      ∙ ap (λ xs. numbered_from (tx.base + k) xs) frames in
      h ∙ rw a (sym (all ∙ again_from k count from f))
