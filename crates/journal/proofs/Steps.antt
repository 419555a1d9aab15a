-- The steps of a history by their positions.
use Rattle.std.proofs.Common.{◌≡◌, ℕ, zero, suc, ◌-◌, ◌<◌, List, [], ◌∷◌, ◌++◌, length, reverse}
use Rattle.std.proofs.Common.{Some, None, cond, refl, ◌∙◌, ap, arith, ◌==◌, slice_get}
use Rattle.std.proofs.Math.Dec.{eqb-suc-suc, eqb-suc-zero, eqb-zero-suc}
use Rattle.std.proofs.lemmas.List.{reverse-append, reverse-reverse, length-reverse}
use Rattle.journal.specs.declared.effect.Step.{Step}
use Rattle.journal.specs.Logs.{step_at}

-- a list with one more at its end, read at a place
pub slice_get-push : {X : Type 0} (xs : List X) (y : X) (k : ℕ)
    → slice_get (xs ++ y ∷ []) k ≡ cond (k == length xs) (Some y) (slice_get xs k)
slice_get-push [] y zero = refl
slice_get-push [] y (suc k) = rw (eqb-suc-zero k) refl
slice_get-push (x ∷ xs) y zero = rw (eqb-zero-suc (length xs)) refl
slice_get-push (x ∷ xs) y (suc k) = rw (eqb-suc-suc k (length xs)) (slice_get-push xs y k)

-- no step has position 0
pub step_at-zero : (P : List Step) → step_at P 0 ≡ None
step_at-zero [] = refl
step_at-zero (s ∷ P) = rw (eqb-zero-suc (length P)) (step_at-zero P)

-- the step at a position is that of the list in the order of making
pub step_at-suc : (P : List Step) (k : ℕ) → step_at P (suc k) ≡ slice_get (reverse P) k
step_at-suc [] k = refl
step_at-suc (s ∷ P) k =
    rw (
      eqb-suc-suc k (length P),
      reverse-append (s ∷ []) P,
      slice_get-push (reverse P) s k,
      length-reverse P,
      step_at-suc P k,
    ) refl

pub step_at-reverse : (xs : List Step) (k : ℕ) → 0 < k
    → step_at (reverse xs) k ≡ slice_get xs (k - 1)
step_at-reverse xs zero h = absurd (omega arith)
step_at-reverse xs (suc k) h =
    step_at-suc (reverse xs) k ∙ ap (λ ys. slice_get ys k) (reverse-reverse xs)
    ∙ ap (slice_get xs) (omega arith)
