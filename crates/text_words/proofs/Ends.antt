-- The last of several parts, and those before it.
use Rattle.std.proofs.Common.{◌≡◌, ℕ, suc, ◌<◌, List, [], ◌∷◌, ◌++◌, length, map, refl, ap, arith}
use Rattle.text_words.specs.Words.{but_last, last_of}

pub but_last_ends : {X : Type 0} (view : X → List ℕ) (xs : List X) (x : X)
    → but_last (map view (xs ++ x ∷ [])) ≡ map view xs
unfolding but_last
but_last_ends view [] x = refl
but_last_ends view (y ∷ []) x = refl
but_last_ends view (y ∷ z ∷ xs) x =
    ap (λ (parts : List (List ℕ)). view y ∷ parts) (but_last_ends view (z ∷ xs) x)

pub last_of_ends : {X : Type 0} (view : X → List ℕ) (xs : List X) (x : X)
    → last_of (map view (xs ++ x ∷ [])) ≡ view x
unfolding last_of
last_of_ends view [] x = refl
last_of_ends view (y ∷ []) x = refl
last_of_ends view (y ∷ z ∷ xs) x = last_of_ends view (z ∷ xs) x

-- the same of lists of parts
pub but_last_parts : (parts : List (List ℕ)) (part : List ℕ)
    → but_last (parts ++ part ∷ []) ≡ parts
unfolding but_last
but_last_parts [] part = refl
but_last_parts (first ∷ []) part = refl
but_last_parts (first ∷ next ∷ parts) part =
    ap (λ (xs : List (List ℕ)). first ∷ xs) (but_last_parts (next ∷ parts) part)

pub last_of_parts : (parts : List (List ℕ)) (part : List ℕ)
    → last_of (parts ++ part ∷ []) ≡ part
unfolding last_of
last_of_parts [] part = refl
last_of_parts (first ∷ []) part = refl
last_of_parts (first ∷ next ∷ parts) part = last_of_parts (next ∷ parts) part

-- parts, of which there are some, are those before the last and the last
pub parts_end : (parts : List (List ℕ)) → 0 < length parts
    → parts ≡ but_last parts ++ last_of parts ∷ []
unfolding but_last last_of
parts_end [] some = absurd (omega (arith, some))
parts_end (part ∷ []) some = refl
parts_end (part ∷ next ∷ parts) some =
    ap (λ (xs : List (List ℕ)). part ∷ xs) (parts_end (next ∷ parts) (omega arith))

-- where there are no parts
pub none_before : {X : Type 0} (view : X → List ℕ) (old new : List X) → length old ≡ 0
    → length new ≡ 0 → map view new ≡ but_last (map view old)
unfolding but_last
none_before view [] [] e f = refl
none_before view [] (x ∷ xs) e f = absurd (omega (arith, f))
none_before view (x ∷ xs) new e f = absurd (omega (arith, e))

pub none_last : {X : Type 0} (view : X → List ℕ) (old : List X) → length old ≡ 0
    → [] ≡ last_of (map view old)
unfolding last_of
none_last view [] e = refl
none_last view (x ∷ xs) e = absurd (omega (arith, e))
