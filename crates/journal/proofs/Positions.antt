-- The steps of a journal by their positions, in order.
use Rattle.std.proofs.Common.{◌≡◌, ℕ, suc, ◌+◌, ◌-◌, ◌<◌, ◌≤◌, List, [], ◌∷◌, length, drop, Some}
use Rattle.std.proofs.Common.{None, refl, ◌∙◌, sym, ap, arith, length-drop, eq-eqb, ne_eqb, ⊎_elim}
use Rattle.std.proofs.lemmas.Bool.{cases_eq}
use Rattle.std.proofs.Math.Nat.{sub-zero}
use Rattle.std.proofs.Math.Seq.{drop-length}
use Rattle.journal.specs.declared.effect.Step.{Step}
use Rattle.journal.specs.Logs.{step_at}
use Rattle.journal.specs.Histories.{first_steps}

-- so many first steps
pub length-first_steps : (P : List Step) (k : ℕ) → k ≤ length P → length (first_steps k P) ≡ k
length-first_steps P k h = omega (arith, length-drop (length P - k) P)

-- the last of them stands in front
first_steps_all : (s : Step) (P : List Step) (k : ℕ) → k ≡ suc (length P)
    → first_steps k (s ∷ P) ≡ s ∷ P
first_steps_all s P k h = let e : suc (length P) - k ≡ 0 = omega arith in rw e refl

-- a later step adds nothing to them
first_steps_more : (s : Step) (P : List Step) (k : ℕ) → k ≤ length P
    → first_steps k (s ∷ P) ≡ first_steps k P
first_steps_more s P k h =
    let e : suc (length P) - k ≡ suc (length P - k) = omega arith in rw e refl

-- after all
pub first_steps_done : (P : List Step) (k : ℕ) → k ≡ length P → first_steps k P ≡ P
first_steps_done P k h = let e : length P - k ≡ 0 = omega arith in rw e refl

-- one step more, if a step stands at the position
pub first_steps_next : (P : List Step) (k : ℕ) (s : Step) → step_at P (k + 1) ≡ Some s
    → k < length P → first_steps (k + 1) P ≡ s ∷ first_steps k P
first_steps_next [] k s is h = absurd (omega arith)
first_steps_next (t ∷ P) k s is h = ⊎_elim
    (λ (last : k + 1 ≡ suc (length P)).
    let found : Some t ≡ Some s = rw (eq-eqb (k + 1) (suc (length P)) last) at is in
    let same : t ≡ s = cc in
    let here : k ≤ length P = omega arith in
    let all : k ≡ length P = omega arith in
    first_steps_all t P (k + 1) last ∙ ap (λ (u : Step). u ∷ P) same
    ∙ ap (λ (Q : List Step). s ∷ Q) (sym (first_steps_more t P k here ∙ first_steps_done P k all)))
    (λ (other : k + 1 ≡ suc (length P) → ⊥).
    let found : step_at P (k + 1) ≡ Some s = rw (ne_eqb (k + 1) (suc (length P)) other) at is in
    let less : k < length P = omega arith in
    let now : k + 1 ≤ length P = omega arith in
    let before : k ≤ length P = omega arith in
    first_steps_more t P (k + 1) now ∙ first_steps_next P k s found less
    ∙ ap (λ (Q : List Step). s ∷ Q) (sym (first_steps_more t P k before)))
    (cases_eq (k + 1) (suc (length P)))

-- a step stands at each position
pub step_at_stands : (P : List Step) (k : ℕ) → k < length P → step_at P (k + 1) ≡ None → ⊥
step_at_stands [] k h is = absurd (omega arith)
step_at_stands (t ∷ P) k h is = ⊎_elim
    (λ (last : k + 1 ≡ suc (length P)).
    let found : Some t ≡ None = rw (eq-eqb (k + 1) (suc (length P)) last) at is in cc)
    (λ (other : k + 1 ≡ suc (length P) → ⊥).
    let found : step_at P (k + 1) ≡ None = rw (ne_eqb (k + 1) (suc (length P)) other) at is in
    step_at_stands P k (omega arith) found)
    (cases_eq (k + 1) (suc (length P)))

-- before any step
pub first_steps_none : (P : List Step) → first_steps 0 P ≡ []
first_steps_none P = ap (λ (n : ℕ). drop n P) (sub-zero (length P)) ∙ drop-length P
