-- A step of a journal at a position, and among its first steps.
use Rattle.std.proofs.Common.{◌≡◌, ℕ, zero, suc, ◌-◌, ◌<◌, ◌≤◌, List, [], ◌∷◌, length, drop}
use Rattle.std.proofs.Common.{Option, None, refl, sym, ◌∙◌, ap, arith, length-drop, ne_eqb}
use Rattle.journal.specs.declared.effect.Step.{Step}
use Rattle.journal.specs.Logs.{step_at}
use Rattle.journal.specs.Histories.{first_steps}
use Rattle.image_laws.specs.Told.{attach_in_step, attached_at}

-- no step stands above the last
pub none_above : (P : List Step) (k : ℕ) → length P < k → step_at P k ≡ None
none_above [] k h = refl
none_above (s ∷ P) k h =
    let other : k ≡ suc (length P) → ⊥ = omega arith in
    rw (ne_eqb k (suc (length P)) other) (none_above P k (omega arith))

-- among the last ones a step stands where it does among all
dropped : (P : List Step) (n k : ℕ) → k ≤ length P - n → step_at (drop n P) k ≡ step_at P k
dropped [] zero k h = refl
dropped [] (suc n) k h = refl
dropped (s ∷ P) zero k h = refl
dropped (s ∷ P) (suc n) k h =
    let below : k ≤ length P - n = omega arith in
    let other : k ≡ suc (length P) → ⊥ = omega arith in
    dropped P n k below ∙ sym (rw (ne_eqb k (suc (length P)) other) refl)

-- one of the first steps
pub first_stands : (P : List Step) (first k : ℕ) → first ≤ length P → k ≤ first
    → step_at (first_steps first P) k ≡ step_at P k
first_stands P first k h below = dropped P (length P - first) k (omega arith)

-- none of them
pub first_above : (P : List Step) (first k : ℕ) → first ≤ length P → first < k
    → step_at (first_steps first P) k ≡ None
first_above P first k h above =
    none_above (first_steps first P) k (omega (arith, length-drop (length P - first) P))

-- the attach of one of the first steps
pub attached_first : (S : List Step) (first position : ℕ) (found : Option Step)
    → first ≤ length S → position ≤ first → found ≡ step_at S position
    → attached_at (first_steps first S) position ≡ attach_in_step found
attached_first S first position found within below is =
    ap attach_in_step (first_stands S first position within below ∙ sym is)

-- there is none behind them
pub attached_above : (S : List Step) (first position : ℕ) → first ≤ length S → first < position
    → attached_at (first_steps first S) position ≡ None
attached_above S first position within above =
    ap attach_in_step (first_above S first position within above)

-- a history of which no step is dropped
none_dropped : (S : List Step) → drop 0 S ≡ S
none_dropped [] = refl
none_dropped (s ∷ P) = refl

-- all of them
pub all_first : (S : List Step) (n : ℕ) → n ≡ length S → first_steps n S ≡ S
all_first S n is =
    let none : length S - n ≡ 0 = omega (arith, is) in
    ap (λ (k : ℕ). drop k S) none ∙ none_dropped S
