-- What is cut at a byte that stands in it once, or not at all.
use Rattle.std.proofs.Common.{◌≡◌, ℕ, Bool, true, false, cond, not, List, [], ◌∷◌, ◌++◌, refl, ap}
use Rattle.std.proofs.Common.{◌==◌, eq-eqb}
use Rattle.std.specs.List.{onto_first}
use Rattle.std.proofs.lemmas.Bool.{and_parts, false≢true}
use Rattle.svg_text.specs.Reading.{cut_at}
use Rattle.svg_text.proofs.Bytes.{lacks}

here : (c : ℕ) (ys : List ℕ) → cut_at c (c ∷ ys) ≡ [] ∷ cut_at c ys
here c ys = rw (eq-eqb c c refl) refl

step : (c x : ℕ) (rest : List ℕ) (cut : List (List ℕ)) → not (x == c) ≡ true
    → cut_at c rest ≡ cut → cut_at c (x ∷ rest) ≡ onto_first x cut
step c x rest cut other is = go (x == c) other
  where
    go : (e : Bool) → not e ≡ true
        → cond e ([] ∷ cut_at c rest) (onto_first x (cut_at c rest)) ≡ onto_first x cut
    go false passed = ap (λ (pieces : List (List ℕ)). onto_first x pieces) is
    go true passed = absurd (false≢true passed)

-- what stands before the byte is the first piece
pub cut_before : (c : ℕ) (xs ys : List ℕ) → lacks c xs ≡ true
    → cut_at c (xs ++ c ∷ ys) ≡ xs ∷ cut_at c ys
cut_before c [] ys none = here c ys
cut_before c (x ∷ xs) ys none =
    let parts = and_parts (not (x == c)) (lacks c xs) none in
    step c x (xs ++ c ∷ ys) (xs ∷ cut_at c ys) parts.0 (cut_before c xs ys parts.1)

-- what lacks the byte is one piece
pub cut_alone : (c : ℕ) (xs : List ℕ) → lacks c xs ≡ true → cut_at c xs ≡ xs ∷ []
cut_alone c [] none = refl
cut_alone c (x ∷ xs) none =
    let parts = and_parts (not (x == c)) (lacks c xs) none in
    step c x xs (xs ∷ []) parts.0 (cut_alone c xs parts.1)
