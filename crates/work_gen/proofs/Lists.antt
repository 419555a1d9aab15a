-- lists over the numbers from 1 to a count
use Rattle.std.proofs.Common.{◌≡◌, ℕ, suc, zero, ◌+◌, List, [], ◌∷◌, ◌++◌, refl, ◌∙◌, ap, arith}
use Rattle.std.proofs.Common.{flat_map, append-nil}
use Rattle.std.specs.List.{range_with_len}
use Rattle.std.proofs.lemmas.List.Concat.{flat_map-append}
use Rattle.work_gen.specs.Generated.{up_to}

-- one number more
range_more : (a n : ℕ) → range_with_len a (n + 1) ≡ range_with_len a n ++ (a + n) ∷ []
range_more a n = let e : n + 1 ≡ suc n = omega arith in rw e (by_count a n)
  where
    by_count : (a n : ℕ) → range_with_len a (suc n) ≡ range_with_len a n ++ (a + n) ∷ []
    by_count a zero = let e : a + 0 ≡ a = omega arith in rw e refl
    by_count a (suc n) =
        let e : a + 1 + n ≡ a + suc n = omega arith in
        ap (λ xs. a ∷ xs) (by_count (a + 1) n ∙ ap (λ k. range_with_len (a + 1) n ++ k ∷ []) e)

-- and what it stands for
pub flat_map_more : {A : Type 0} (f : ℕ → List A) (n : ℕ)
    → flat_map f (up_to (n + 1)) ≡ flat_map f (up_to n) ++ f (n + 1)
flat_map_more f n =
    let e : 1 + n ≡ n + 1 = omega arith in
    ap (flat_map f) (range_more 1 n) ∙ flat_map-append f (up_to n) ((1 + n) ∷ [])
    ∙ ap (λ xs. flat_map f (up_to n) ++ xs) (append-nil (f (1 + n)))
    ∙ ap (λ k. flat_map f (up_to n) ++ f k) e
