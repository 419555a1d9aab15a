-- Kept frames taken one by one.
use Rattle.std.proofs.Common.{◌≡◌, ℕ, ◌+◌, Option, Some, None, List, [], ◌∷◌, refl, ap, sym, ◌∙◌}
use Rattle.std.proofs.Common.{arith, inl, inr}
use Rattle.std.proofs.lemmas.Bool.Decides.{eqb_tells}
use Rattle.linx_base.specs.declared.frame.Frame.{Frame}
use Rattle.linx_base.specs.declared.frame.SentFrame.{SentFrame}
use Rattle.ethcm_window.specs.Receiving.{Receiver, KeepsInOrder, kept_at, kept_above, after_taking}
use Rattle.ethcm_window.proofs.Keeping.{front_kept, front_missing, rises_from_expected}
use Rattle.fragmenter.specs.declared.joiner.Joined.{Joined}
use Rattle.fragmenter.specs.declared.joiner.Joined.TheVariants.{More, Whole, Broken}
use Rattle.fragmenter.specs.Joining.{Begun, held_after, joiner_answer}
use Rattle.ethcm_end.specs.Rules.{Taken, take_kept}

-- what stands where no more is taken
abbrev stops : ℕ → List SentFrame → Option Begun → Joined → Taken
stops n kept held made =
    record { rx = record { expected = n; kept = kept }; held = held; made = made }

-- the kept frame of the expected number is taken
take_first : (n : ℕ) (kept : List SentFrame) (held : Option Begun) (f : Frame)
    → KeepsInOrder n kept → Some f ≡ kept_at n kept
    → take_kept n kept held More
    ≡ take_kept (n + 1) (kept_above n kept) (held_after held f) (joiner_answer held f)
unfolding take_kept
take_first n [] held f r e = absurd (grind arith)
take_first n (s ∷ kept) held f r e =
    let rises = rises_from_expected n (s ∷ kept) r in
    elim (eqb_tells s.number n) [
      | inl same ↦
          let above : kept ≡ kept_above n (s ∷ kept) =
          (front_kept 0 n (s ∷ kept) s rises refl (omega arith) same.1).0 in
          let found : Some f ≡ Some s.frame = rw same.0 at e in
          let frame : f ≡ s.frame = grind arith in
          rw (same.0, ← above, frame) refl
      | inr other ↦
          let none = (front_missing 0 n (s ∷ kept) s rises refl other.1).0 in
          absurd (grind arith)
    ]

-- where the frame of the expected number isn't kept, no more is taken
take_none : (n : ℕ) (kept : List SentFrame) (held : Option Begun)
    → KeepsInOrder n kept → None ≡ kept_at n kept
    → take_kept n kept held More ≡ stops n kept held More
unfolding take_kept
take_none n [] held r e = refl
take_none n (s ∷ kept) held r e =
    elim (eqb_tells s.number n) [
      | inl same ↦ absurd (let found : None ≡ Some s.frame = rw same.0 at e in grind arith)
      | inr other ↦ rw other.0 refl
    ]

-- where a message was made whole or broken, no more is taken
take_ended : (n : ℕ) (kept : List SentFrame) (held : Option Begun) (made : Joined)
    → (made ≡ More → ⊥) → take_kept n kept held made ≡ stops n kept held made
unfolding take_kept
take_ended n kept held More other = absurd (other refl)
take_ended n [] held (Whole m) other = refl
take_ended n (s ∷ kept) held (Whole m) other = refl
take_ended n [] held Broken other = refl
take_ended n (s ∷ kept) held Broken other = refl

-- what the taken frames are to be
module _ (rx new : Receiver) (held : Option Begun) (made : Joined) (all : Taken)
    (k : KeepsInOrder rx.expected rx.kept)
    (i : take_kept rx.expected rx.kept held made ≡ all) where
  -- one more is taken
  pub took_one : (after : Option Begun) (f : Frame) (now : Joined)
      → Some f ≡ kept_at rx.expected rx.kept → new ≡ after_taking rx → after ≡ held_after held f
      → now ≡ joiner_answer held f → made ≡ More → take_kept new.expected new.kept after now ≡ all
  took_one after f now e n h a m =
      let more : take_kept rx.expected rx.kept held More ≡ all = rw m at i in
      rw (n, h, a) (sym (take_first rx.expected rx.kept held f k e) ∙ more)

  -- no more is taken
  pub took_none : None ≡ kept_at rx.expected rx.kept → new ≡ rx → made ≡ More
      → record { rx : new ≡ all.rx; joiner : held ≡ all.held; made : More ≡ all.made }
  took_none e n m =
      let more : take_kept rx.expected rx.kept held More ≡ all = rw m at i in
      let stopped = sym (take_none rx.expected rx.kept held k e) ∙ more in
      record {
        rx = n ∙ ap (λ (t : Taken). t.rx) stopped;
        joiner = ap (λ (t : Taken). t.held) stopped;
        made = ap (λ (t : Taken). t.made) stopped;
      }

pub took_all : (rx : Receiver) (held : Option Begun) (made : Joined) (all : Taken)
    → (made ≡ More → ⊥) → take_kept rx.expected rx.kept held made ≡ all
    → record { rx : rx ≡ all.rx; joiner : held ≡ all.held; made : made ≡ all.made }
took_all rx held made all ended i =
    let stopped = sym (take_ended rx.expected rx.kept held made ended) ∙ i in
    record {
      rx = ap (λ (t : Taken). t.rx) stopped;
      joiner = ap (λ (t : Taken). t.held) stopped;
      made = ap (λ (t : Taken). t.made) stopped;
    }
