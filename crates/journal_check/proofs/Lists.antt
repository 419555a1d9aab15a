-- Lists read at a place, and with one place changed.
use Rattle.std.proofs.Common.{◌≡◌, ◌≢◌, ℕ, zero, suc, ◌<◌, ◌≤◌, Bool, true, false, List, [], ◌∷◌}
use Rattle.std.proofs.Common.{length, Option, Some, None, get_or, refl, sym, ◌∙◌, ap, subst, arith}
use Rattle.std.proofs.Common.{◌==◌, slice_get, slice_set, eq-eqb, eqb-true, true≢false}
use Rattle.linx_base.specs.FirstMatch.{first_match, without_match}

-- two lists of one length are one where they have the same at each place
pub same-lists : {X : Type 0} (xs ys : List X) → length xs ≡ length ys
    → ((k : ℕ) → k < length xs → slice_get xs k ≡ slice_get ys k) → xs ≡ ys
same-lists [] [] same all = refl
same-lists [] (y ∷ ys) same all = absurd (omega arith)
same-lists (x ∷ xs) [] same all = absurd (omega arith)
same-lists (x ∷ xs) (y ∷ ys) same all =
    let first : (let o : Option _ = Some x in o) ≡ Some y = all 0 (omega arith) in
    let one : x ≡ y = cc in
    let rest : xs ≡ ys =
    same-lists xs ys (omega arith) (λ k within. all (suc k) (omega arith)) in
    cc

-- what is there, is within
pub within-list : {X : Type 0} (xs : List X) (k : ℕ) (x : X) → slice_get xs k ≡ Some x
    → k < length xs
within-list [] k x is = cc
within-list (y ∷ xs) zero x is = omega arith
within-list (y ∷ xs) (suc k) x is =
    let less : k < length xs = within-list xs k x is in omega arith

pub past-list : {X : Type 0} (xs : List X) (k : ℕ) → length xs ≤ k → slice_get xs k ≡ None
past-list [] k past = refl
past-list (x ∷ xs) zero past = absurd (omega arith)
past-list (x ∷ xs) (suc k) past = past-list xs k (omega arith)

pub get-is : {X : Type 0} (xs : List X) (k : ℕ) (d v : X) → slice_get xs k ≡ Some v
    → get_or xs k d ≡ v
get-is [] k d v is = cc
get-is (x ∷ xs) zero d v is = cc
get-is (x ∷ xs) (suc k) d v is = get-is xs k d v is

pub is-get : {X : Type 0} (xs : List X) (k : ℕ) (v : X) → k < length xs → v ≡ get_or xs k v
    → slice_get xs k ≡ Some v
is-get [] k v within is = absurd (omega arith)
is-get (x ∷ xs) zero v within is = ap (λ (z : _). Some z) (sym is)
is-get (x ∷ xs) (suc k) v within is = is-get xs k v (omega arith) is

-- where none passes, none is taken out
pub without-none : {X : Type 0} (p : X → Bool) (xs : List X) → first_match p xs ≡ None
    → without_match p xs ≡ xs
without-none p [] none = refl
without-none p (x ∷ xs) none =
    let go : (b : Bool) → p x ≡ b → without_match p (x ∷ xs) ≡ x ∷ xs = λ b.
    elim b as (λ c. p x ≡ c → without_match p (x ∷ xs) ≡ x ∷ xs) [
      | true ↦ λ e. let some : (let o : Option _ = Some x in o) ≡ None = rw e at none in cc
      | false ↦ λ e. let rest : first_match p xs ≡ None = rw e at none in
          rw e (ap (λ l. x ∷ l) (without-none p xs rest))
    ]
    in
    go (p x) refl

-- LISTS with one place changed
pub get-set : {X : Type 0} (xs : List X) (i : ℕ) (x : X) → i < length xs
    → slice_get (slice_set xs i x) i ≡ Some x
get-set [] i x within = absurd (omega arith)
get-set (y ∷ xs) zero x within = refl
get-set (y ∷ xs) (suc i) x within = get-set xs i x (omega arith)

pub get-set-other : {X : Type 0} (xs : List X) (i j : ℕ) (x : X) → i ≢ j
    → slice_get (slice_set xs i x) j ≡ slice_get xs j
get-set-other [] i j x other = refl
get-set-other (y ∷ xs) zero zero x other = absurd (other refl)
get-set-other (y ∷ xs) zero (suc j) x other = refl
get-set-other (y ∷ xs) (suc i) zero x other = refl
get-set-other (y ∷ xs) (suc i) (suc j) x other = get-set-other xs i j x (λ e. other (ap suc e))

pub length-set : {X : Type 0} (xs : List X) (i : ℕ) (x : X) → length (slice_set xs i x) ≡ length xs
length-set [] i x = refl
length-set (y ∷ xs) zero x = refl
length-set (y ∷ xs) (suc i) x = ap suc (length-set xs i x)

-- LISTS of what is left of each number from 1 on: f before a step, g after it
module _ {X : Type 0} (f g : ℕ → X) (xs : List X)
    (left : (n : ℕ) → n < length xs → slice_get xs n ≡ Some (f (suc n))) where
  -- where one of them changes, it is set
  pub set-left : (place : ℕ) → ((n : ℕ) → place ≢ n → g (suc n) ≡ f (suc n)) → (x : X)
      → place < length xs → x ≡ g (suc place)
      → (n : ℕ) → n < length (slice_set xs place x)
      → slice_get (slice_set xs place x) n ≡ Some (g (suc n))
  set-left place elsewhere x within is n under = go (place == n) refl
    where
      go : (b : Bool) → (place == n) ≡ b → slice_get (slice_set xs place x) n ≡ Some (g (suc n))
      go true e =
          let same : place ≡ n = eqb-true place n e in
          subst (λ (m : ℕ). slice_get (slice_set xs place x) m ≡ Some (g (suc m))) same
          (get-set xs place x within ∙ ap (λ (y : X). Some y) is)
      go false e =
          let other : place ≢ n = λ same. true≢false (sym (eq-eqb place n same) ∙ e) in
          get-set-other xs place n x other
          ∙ left n (omega (arith, under, length-set xs place x))
          ∙ ap (λ (y : X). Some y) (sym (elsewhere n other))

  -- where none changes, they are as they were
  pub same-left : ((n : ℕ) → g (suc n) ≡ f (suc n)) → (n : ℕ) → n < length xs
      → slice_get xs n ≡ Some (g (suc n))
  same-left all n under = left n under ∙ ap (λ (y : X). Some y) (sym (all n))
