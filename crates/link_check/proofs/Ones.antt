-- One of a list that passes a test.
use Rattle.std.proofs.Common.{◌≡◌, Bool, true, false, ◌&&◌, ◌||◌, List, [], ◌∷◌, filter, inl, inr}
use Rattle.std.proofs.Common.{refl, sym, true≢false, cond}
use Rattle.std.specs.List.{list_any}
use Rattle.std.proofs.lemmas.Bool.{or_cases, or_left, or_right, false_from_ne_true}

-- it passes, and stands among them: whatever it passes, one of them does
pub record One {X : Type 0} (p : X → Bool) (xs : List X) : Type 0 where
  pub it : X
  pub passes : p it ≡ true
  pub among : (r : X → Bool) → r it ≡ true → list_any r xs ≡ true

module _ {X : Type 0} where
  later : (p : X → Bool) (x : X) (xs : List X) → One p xs → One p (x ∷ xs)
  later p x xs one = record {
    it = one.it;
    passes = one.passes;
    among = λ r is. or_right (r x) (list_any r xs) (one.among r is);
  }

  pub any-one : (p : X → Bool) (xs : List X) → list_any p xs ≡ true → One p xs
  any-one p [] is = absurd (true≢false (sym is))
  any-one p (x ∷ xs) is =
      elim (or_cases (p x) (list_any p xs) is) [
        | inl e ↦ record { it = x; passes = e; among = λ r same. or_left (r x) (list_any r xs) same }
        | inr e ↦ later p x xs (any-one p xs e)
      ]

  -- of those that pass a test
  pub any-kept : (r q : X → Bool) (xs : List X) → list_any r (filter q xs) ≡ true
      → list_any r xs ≡ true
  any-kept r q [] is = is
  any-kept r q (x ∷ xs) is = go (q x) (λ rest. any-kept r q xs rest) is
    where
      go : (b : Bool) → (list_any r (filter q xs) ≡ true → list_any r xs ≡ true)
          → list_any r (cond b (x ∷ filter q xs) (filter q xs)) ≡ true
          → (r x || list_any r xs) ≡ true
      go true more both =
          elim (or_cases (r x) (list_any r (filter q xs)) both) [
            | inl e ↦ or_left (r x) (list_any r xs) e
            | inr e ↦ or_right (r x) (list_any r xs) (more e)
          ]
      go false more rest = or_right (r x) (list_any r xs) (more rest)

  pub any-both : (p q : X → Bool) (xs : List X) → list_any (λ x. q x && p x) xs ≡ true
      → list_any p (filter q xs) ≡ true
  any-both p q [] is = is
  any-both p q (x ∷ xs) is = go (q x) (λ rest. any-both p q xs rest) is
    where
      go : (b : Bool)
          → (list_any (λ y. q y && p y) xs ≡ true → list_any p (filter q xs) ≡ true)
          → ((b && p x) || list_any (λ y. q y && p y) xs) ≡ true
          → list_any p (cond b (x ∷ filter q xs) (filter q xs)) ≡ true
      go true more both =
          elim (or_cases (p x) (list_any (λ y. q y && p y) xs) both) [
            | inl e ↦ or_left (p x) (list_any p (filter q xs)) e
            | inr e ↦ or_right (p x) (list_any p (filter q xs)) (more e)
          ]
      go false more rest = more rest

  pub any-and : (p q : X → Bool) (xs : List X) → list_any p (filter q xs) ≡ true
      → list_any (λ x. q x && p x) xs ≡ true
  any-and p q [] is = is
  any-and p q (x ∷ xs) is = go (q x) (λ rest. any-and p q xs rest) is
    where
      go : (b : Bool)
          → (list_any p (filter q xs) ≡ true → list_any (λ y. q y && p y) xs ≡ true)
          → list_any p (cond b (x ∷ filter q xs) (filter q xs)) ≡ true
          → ((b && p x) || list_any (λ y. q y && p y) xs) ≡ true
      go true more either =
          elim (or_cases (p x) (list_any p (filter q xs)) either) [
            | inl e ↦ or_left (p x) (list_any (λ y. q y && p y) xs) e
            | inr e ↦ or_right (p x) (list_any (λ y. q y && p y) xs) (more e)
          ]
      go false more rest = more rest

  -- none of those that pass a test passes another where none passes both
  pub none-filtered : (p q : X → Bool) (xs : List X)
      → ((x : X) → q x ≡ true → p x ≡ true → ⊥) → list_any p (filter q xs) ≡ false
  none-filtered p q [] none = refl
  none-filtered p q (x ∷ xs) none = go (q x) refl (none-filtered p q xs none)
    where
      go : (b : Bool) → q x ≡ b → list_any p (filter q xs) ≡ false
          → list_any p (cond b (x ∷ filter q xs) (filter q xs)) ≡ false
      go true e rest = rw (false_from_ne_true (p x) (none x e)) rest
      go false e rest = rest
