-- Lists of which something holds of each element, and tests over lists.
use Rattle.std.proofs.Common.{◌≡◌, Bool, true, false, cond, ◌&&◌, ◌⊎◌, inl, inr, List, [], ◌∷◌}
use Rattle.std.proofs.Common.{◌++◌, Some, refl, sym, ap, ◌∙◌, subst, filter}
use Rattle.std.specs.List.{list_any, AllByRecursion}
use Rattle.std.proofs.Math.Bool.{or-false}
use Rattle.std.proofs.lemmas.Bool.{or_cases, or_left, or_right}
use Rattle.linx_base.specs.FirstMatch.{first_match}

module _ {X : Type 0} where
  -- what holds of each element holds of those of a part, and of both parts of a whole
  pub all-append : (P : X → Type 0) (xs ys : List X)
      → AllByRecursion P xs → AllByRecursion P ys → AllByRecursion P (xs ++ ys)
  all-append P [] ys all_xs all_ys = all_ys
  all-append P (x ∷ xs) ys all_xs all_ys = (all_xs.0, all-append P xs ys all_xs.1 all_ys)

  pub all-filter : (P : X → Type 0) (p : X → Bool) (xs : List X)
      → AllByRecursion P xs → AllByRecursion P (filter p xs)
  all-filter P p [] all = tt
  all-filter P p (x ∷ xs) all =
      elim (p x) as (λ b. AllByRecursion P (cond b (x ∷ filter p xs) (filter p xs))) [
        | true ↦ (all.0, all-filter P p xs all.1)
        | false ↦ all-filter P p xs all.1
      ]

  pub all-impl : (P Q : X → Type 0) → ((x : X) → P x → Q x) → (xs : List X)
      → AllByRecursion P xs → AllByRecursion Q xs
  all-impl P Q h [] all = tt
  all-impl P Q h (x ∷ xs) all = (h x all.0, all-impl P Q h xs all.1)

  pub all-first_match : (P : X → Type 0) (p : X → Bool) (xs : List X) (x : X)
      → AllByRecursion P xs → first_match p xs ≡ Some x → P x
  all-first_match P p [] x all is = cc
  all-first_match P p (y ∷ ys) x all is =
      let go : (b : Bool) → cond b (Some y) (first_match p ys) ≡ Some x → P x = λ b.
      elim b as (λ c. cond c (Some y) (first_match p ys) ≡ Some x → P x) [
        | true ↦ λ e. let same : y ≡ x = cc in subst P same all.0
        | false ↦ λ e. all-first_match P p ys x all.1 e
      ]
      in
      go (p y) is

  -- where all pass, a filter keeps all
  pub filter-all : (p : X → Bool) (xs : List X) → AllByRecursion (λ x. p x ≡ true) xs
      → filter p xs ≡ xs
  filter-all p [] all = refl
  filter-all p (x ∷ xs) all = rw all.0 (ap (λ l. x ∷ l) (filter-all p xs all.1))

  pub filter-every : (p : X → Bool) → ((x : X) → p x ≡ true) → (xs : List X) → filter p xs ≡ xs
  filter-every p all [] = refl
  filter-every p all (x ∷ xs) = rw (all x) (ap (λ l. x ∷ l) (filter-every p all xs))

  -- a filter after a filter is one that asks for both
  pub filter-filter : (p q : X → Bool) (xs : List X)
      → filter p (filter q xs) ≡ filter (λ x. q x && p x) xs
  filter-filter p q [] = refl
  filter-filter p q (x ∷ xs) =
      elim (q x) as (λ b. filter p (cond b (x ∷ filter q xs) (filter q xs))
      ≡ cond (b && p x) (x ∷ filter (λ y. q y && p y) xs) (filter (λ y. q y && p y) xs)) [
        | true ↦ ap (λ l. cond (p x) (x ∷ l) l) (filter-filter p q xs)
        | false ↦ filter-filter p q xs
      ]

  -- what passes the narrower test somewhere, passes the wider one
  pub list_any-wider : (p q : X → Bool) → ((x : X) → p x ≡ true → q x ≡ true) → (xs : List X)
      → list_any p xs ≡ true → list_any q xs ≡ true
  list_any-wider p q wider [] is = is
  list_any-wider p q wider (x ∷ xs) is =
      elim (or_cases (p x) (list_any p xs) is) [
        | inl e ↦ or_left (q x) (list_any q xs) (wider x e)
        | inr e ↦ or_right (q x) (list_any q xs) (list_any-wider p q wider xs e)
      ]

  list_any-kept : (p : X → Bool) (b : Bool) (x : X) (xs : List X)
      → list_any p (cond b (x ∷ xs) xs) ≡ true → (p x ≡ true) ⊎ (list_any p xs ≡ true)
  list_any-kept p true x xs is = or_cases (p x) (list_any p xs) is
  list_any-kept p false x xs is = inr is

  -- what a filter kept, was there
  pub list_any-filter : (p q : X → Bool) (xs : List X)
      → list_any p (filter q xs) ≡ true → list_any p xs ≡ true
  list_any-filter p q [] is = is
  list_any-filter p q (x ∷ xs) is =
      elim (list_any-kept p (q x) x (filter q xs) is) [
        | inl e ↦ or_left (p x) (list_any p xs) e
        | inr e ↦ or_right (p x) (list_any p xs) (list_any-filter p q xs e)
      ]

  -- a lone element passes
  pub list_any-one : (p : X → Bool) (x : X) (xs : List X)
      → xs ≡ x ∷ [] → list_any p xs ≡ true → p x ≡ true
  list_any-one p x xs e is = sym (or-false (p x)) ∙ sym (ap (list_any p) e) ∙ is
