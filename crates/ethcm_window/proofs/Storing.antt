-- Queues that hold what was and what is.
use Rattle.std.proofs.Common.{◌≡◌, ℕ, zero, suc, ◌+◌, ◌≤◌, List, [], ◌∷◌, ◌++◌, length, drop, refl}
use Rattle.std.proofs.Common.{ap, ◌∙◌, arith, insert, remove}
use Rattle.ethcm_window.specs.WaysBack.{without_put}

-- what was put at a place is taken out again
put_back : {X : Type 0} (at : ℕ) (xs : List X) (x : X) → at ≤ length xs
    → remove (insert xs at x) at ≡ xs
put_back zero xs x h = refl
put_back (suc at) [] x h = absurd (omega arith)
put_back (suc at) (y ∷ xs) x h = ap (λ l. y ∷ l) (put_back at xs x (omega arith))

-- nothing is taken out past the end
pub remove_past : {X : Type 0} (at : ℕ) (xs : List X) → length xs ≤ at → remove xs at ≡ xs
remove_past zero [] h = refl
remove_past zero (x ∷ xs) h = absurd (omega arith)
remove_past (suc at) [] h = refl
remove_past (suc at) (x ∷ xs) h = ap (λ l. x ∷ l) (remove_past at xs (omega arith))

-- the last that was put is taken out first
pub without_last : {X : Type 0} (places : List ℕ) (place : ℕ) (xs : List X)
    → without_put (places ++ place ∷ []) xs ≡ without_put places (remove xs place)
without_last [] place xs = refl
without_last (at ∷ places) place xs = ap (λ l. remove l at) (without_last places place xs)

-- one more was put
pub without_more : {X : Type 0} (places : List ℕ) (place : ℕ) (xs : List X) (x : X)
    → place ≤ length xs
    → without_put (places ++ place ∷ []) (insert xs place x) ≡ without_put places xs
without_more places place xs x h =
    without_last places place (insert xs place x)
    ∙ ap (λ l. without_put places l) (put_back place xs x h)

-- what is put behind the first ones
pub drop-insert : {X : Type 0} (n at : ℕ) (xs : List X) (x : X) → n + at ≤ length xs
    → drop n (insert xs (n + at) x) ≡ insert (drop n xs) at x
drop-insert zero at xs x h = let e : 0 + at ≡ at = omega arith in rw e refl
drop-insert (suc n) at [] x h = absurd (omega arith)
drop-insert (suc n) at (y ∷ xs) x h =
    let e : suc n + at ≡ suc (n + at) = omega arith in
    rw e (drop-insert n at xs x (omega arith))
