-- Lists read by place, and lists with one more at the end.
use Rattle.std.proofs.Common.{◌≡◌, ℕ, zero, suc, ◌<◌, ◌⊎◌, List, [], ◌∷◌, ◌++◌, length, get_or, map}
use Rattle.std.proofs.Common.{Some, All, refl, ap, inl, inr, ⊎_elim, sym, arith, slice_get}
use Rattle.std.proofs.lemmas.List.Elements.{All-nil, All-cons, All-head, All-tail}
use mathlib.Core.Option.{some, some-injective, some-ne-none}
use lib.ListN.{get_elem?}

module _ {A : Type 0} where
  -- an item of a list with one more at its end is one of the list, or the last
  pub at_end : (l : List A) (a b : A) (j : ℕ) → get_elem? (l ++ a ∷ []) j ≡ some b
      → (get_elem? l j ≡ some b) ⊎ ((j ≡ length l) × (a ≡ b))
  at_end [] a b zero e = inr (refl, some-injective a b e)
  at_end [] a b (suc j) e = absurd (some-ne-none b (sym e))
  at_end (x ∷ xs) a b zero e = inl e
  at_end (x ∷ xs) a b (suc j) e = ⊎_elim (λ t. inl t)
      (λ (t : (j ≡ length xs) × (a ≡ b)). inr (omega arith, t.1))
      (at_end xs a b j e)

  -- what stands at a place stands inside
  pub inside : (l : List A) (i : ℕ) (a : A) → get_elem? l i ≡ some a → i < length l
  inside [] i a e = absurd (some-ne-none a (sym e))
  inside (x ∷ xs) zero a e = omega arith
  inside (x ∷ xs) (suc i) a e = let l = inside xs i a e in omega arith

  pub head_same : (a b : A) → a ∷ [] ≡ b ∷ [] → a ≡ b
  head_same a b e = ap (λ l. get_or l 0 a) e

  pub get_before : (xs ys : List A) (k : ℕ) → k < length xs
      → slice_get (xs ++ ys) k ≡ slice_get xs k
  get_before [] ys k l = absurd (omega arith)
  get_before (x ∷ xs) ys zero l = refl
  get_before (x ∷ xs) ys (suc k) l = get_before xs ys k (omega arith)

  pub get_last : (xs : List A) (y : A) → slice_get (xs ++ y ∷ []) (length xs) ≡ Some y
  get_last [] y = refl
  get_last (x ∷ xs) y = get_last xs y

  pub All-unmap : {B : Type 0} (P : B → Type 0) (f : A → B) (xs : List A)
      → All P (map f xs) → All (λ a. P (f a)) xs
  All-unmap P f [] h = All-nil (λ a. P (f a))
  All-unmap P f (x ∷ xs) h = All-cons (λ a. P (f a)) x xs (All-head P (f x) (map f xs) h)
      (All-unmap P f xs (All-tail P (f x) (map f xs) h))
