use Rattle.std.proofs.Common.{◌≡◌, ◌≢◌, ℕ, ◌+◌, ◌≤◌, ◌↔◌, Bool, true, false, eqb, ltb, Option, None}
use Rattle.std.proofs.Common.{Some, Result, Ok, Err, IfOk, ◌++◌, length, refl, sym, subst, arith}
use Rattle.std.proofs.Common.{length-append, if◌then◌else◌, eqb-true, ltb-true, ltb-false}
use Rattle.std.proofs.lemmas.Bool.{eqb-false}
use Rattle.linx_base.specs.declared.memory.NoMemory.{NoMemory}
use Rattle.linx_base.specs.declared.frame.Message.{Message}
use Rattle.linx_base.specs.declared.frame.Frame.{Frame}
use Rattle.linx_base.specs.declared.frame.Frame.TheVariants.{First, Next}
use Rattle.fragmenter.specs.declared.joiner.Joined.{Joined}
use Rattle.fragmenter.specs.declared.joiner.Joined.TheVariants.{More, Whole, Broken}
use Rattle.linx_base.specs.Frames.{has_more}
use Rattle.fragmenter.specs.Joining.{Begun, joiner_answer, IsBroken, Misfits, message_of, judged}

-- Broken exactly where the frame breaks the message so far, and More exactly where it doesn't and
-- more is to come
abbrev pub Answers : Joined → Type 0 → Bool → Type 0
Answers answer broken more =
    ((answer ≡ Broken) ↔ broken) × ((answer ≡ More) ↔ ((¬ broken) × (more ≡ true)))

with_more : (n size : ℕ) (v : Bool) → ltb n size ≡ v
    → Answers (if v then More else Broken) (size ≤ n) true
with_more n size true e =
    let short = ltb-true n size e in
    ((λ q. cc, λ h. absurd (omega arith)), (λ q. (λ h. absurd (omega arith), refl), λ q. refl))
with_more n size false e =
    let reached = ltb-false n size e in
    ((λ q. reached, λ h. refl), (λ q. cc, λ q. absurd (q.0 reached)))

at_the_last : (n size : ℕ) (m : Message) (v : Bool) → eqb n size ≡ v
    → Answers (if v then Whole m else Broken) (n ≢ size) false
at_the_last n size m true e =
    ((λ q. cc, λ h. absurd (h (eqb-true n size e))), (λ q. cc, λ q. cc))
at_the_last n size m false e =
    ((λ q. eqb-false n size e, λ h. refl), (λ q. cc, λ q. cc))

judges : (b : Begun) (n : ℕ) (more : Bool) → length b.bytes ≡ n
    → Answers (judged (Some b) more) (Misfits b.size n more) more
judges b n true e =
    subst (λ k. Answers (judged (Some b) true) (Misfits b.size k true) true) e
    (with_more (length b.bytes) b.size (ltb (length b.bytes) b.size) refl)
judges b n false e =
    subst (λ k. Answers (judged (Some b) false) (Misfits b.size k false) false) e
    (at_the_last (length b.bytes) b.size (message_of b) (eqb (length b.bytes) b.size) refl)

breaks : (more : Bool) → Answers Broken (Unit {0}) more
breaks more = ((λ q. tt, λ q. refl), (λ q. cc, λ q. absurd (q.0 tt)))

answers : (begun : Option Begun) (frame : Frame)
    → Answers (joiner_answer begun frame) (IsBroken begun frame) (has_more frame)
answers None (First more from to size payload) =
    judges (record { from = from; to = to; size = size; bytes = payload }) (length payload) more
    refl
answers None (Next more payload) = breaks more
answers (Some b) (First more from to size payload) = breaks more
answers (Some b) (Next more payload) =
    judges (record b { bytes = b.bytes ++ payload }) (length b.bytes + length payload) more
    (length-append b.bytes payload)

-- what an answer by the rule says
pub broken_exactly : (result : Result Joined NoMemory) (begun : Option Begun) (frame : Frame)
    → IfOk result (λ answer. answer ≡ joiner_answer begun frame)
    → IfOk result (λ answer. (answer ≡ Broken) ↔ IsBroken begun frame)
broken_exactly (Ok answer) begun frame e =
    subst (λ a. (a ≡ Broken) ↔ IsBroken begun frame) (sym e) (answers begun frame).0
broken_exactly (Err e) begun frame h = tt

pub more_exactly : (result : Result Joined NoMemory) (begun : Option Begun) (frame : Frame)
    → IfOk result (λ answer. answer ≡ joiner_answer begun frame)
    → IfOk result (λ answer. (answer ≡ More) ↔ ((¬ IsBroken begun frame) × (has_more frame ≡ true)))
more_exactly (Ok answer) begun frame e =
    subst (λ a. (a ≡ More) ↔ ((¬ IsBroken begun frame) × (has_more frame ≡ true))) (sym e)
    (answers begun frame).1
more_exactly (Err e) begun frame h = tt
