-- Lists out of which the first element that passes a test is taken.
use Rattle.std.proofs.Common.{◌≡◌, Bool, true, false, cond, List, [], ◌∷◌, ◌++◌, map, refl, ap, sym}
use Rattle.std.proofs.Common.{subst, inl, inr, Some, None, filter, ◌||◌, option_map}
use Rattle.std.specs.List.{AllByRecursion, list_any, list_all}
use Rattle.std.proofs.lemmas.Bool.{cases_Bool}
use Rattle.linx_base.specs.FirstMatch.{first_match, without_match}

module _ {X : Type 0} where
  -- what holds of each holds of those that are left, and of the first that passes
  pub all_without : (P : X → Type 0) (p : X → Bool) (xs : List X) → AllByRecursion P xs
      → AllByRecursion P (without_match p xs)
  all_without P p [] all = all
  all_without P p (x ∷ xs) all =
      elim (p x) as (λ b. AllByRecursion P (cond b xs (x ∷ without_match p xs))) [
        | true ↦ all.1
        | false ↦ (all.0, all_without P p xs all.1)
      ]

  pub all_first : (P : X → Type 0) (p : X → Bool) (xs : List X) (x : X) → AllByRecursion P xs
      → first_match p xs ≡ Some x → P x
  all_first P p [] x all is = cc
  all_first P p (y ∷ xs) x all is =
      let go : (b : Bool) → cond b (Some y) (first_match p xs) ≡ Some x → P x = λ b.
      elim b as (λ c. cond c (Some y) (first_match p xs) ≡ Some x → P x) [
        | true ↦ λ e. let same : y ≡ x = cc in subst P same all.0
        | false ↦ λ e. all_first P p xs x all.1 e
      ]
      in
      go (p y) is

  pub all_push : (P : X → Type 0) (xs : List X) (x : X) → AllByRecursion P xs → P x
      → AllByRecursion P (xs ++ x ∷ [])
  all_push P [] x all here = (here, tt)
  all_push P (y ∷ xs) x all here = (all.0, all_push P xs x all.1 here)

  pub all_by : (P Q : X → Type 0) (xs : List X) → ((x : X) → P x → Q x) → AllByRecursion P xs
      → AllByRecursion Q xs
  all_by P Q [] by all = tt
  all_by P Q (x ∷ xs) by all = (by x all.0, all_by P Q xs by all.1)

  pub all_both : (P Q : X → Type 0) (xs : List X) → AllByRecursion P xs → AllByRecursion Q xs
      → AllByRecursion (λ x. P x × Q x) xs
  all_both P Q [] one two = tt
  all_both P Q (x ∷ xs) one two = ((one.0, two.0), all_both P Q xs one.1 two.1)

  -- the first that passes does so
  pub first_passes : (p : X → Bool) (xs : List X) (x : X) → first_match p xs ≡ Some x → p x ≡ true
  first_passes p [] x is = cc
  first_passes p (y ∷ xs) x is = elim (cases_Bool (p y)) [
    | inl hit ↦
        let found : Some y ≡ Some x = rw hit at is in
        let same : y ≡ x = cc in
        subst (λ z. p z ≡ true) same hit
    | inr miss ↦
        let later : first_match p xs ≡ Some x = rw miss at is in
        first_passes p xs x later
  ]

  -- a test that the first one fails finds the same among the others
  pub any_without : (p q : X → Bool) (xs : List X) (x : X) → first_match p xs ≡ Some x
      → q x ≡ false → list_any q (without_match p xs) ≡ list_any q xs
  any_without p q [] x is fails = cc
  any_without p q (y ∷ xs) x is fails = elim (cases_Bool (p y)) [
    | inl hit ↦
        let found : Some y ≡ Some x = rw hit at is in
        let same : y ≡ x = cc in
        let out : q y ≡ false = subst (λ z. q z ≡ false) (sym same) fails in
        rw (hit, out) refl
    | inr miss ↦
        let later : first_match p xs ≡ Some x = rw miss at is in
        rw miss (ap (λ b. q y || b) (any_without p q xs x later fails))
  ]

  -- and one that it alone may fail fails where it does
  pub all_fails : (p r : X → Bool) (xs : List X) (x : X) → first_match p xs ≡ Some x
      → r x ≡ false → list_all r xs ≡ false
  all_fails p r [] x is fails = cc
  all_fails p r (y ∷ xs) x is fails = elim (cases_Bool (p y)) [
    | inl hit ↦
        let found : Some y ≡ Some x = rw hit at is in
        let same : y ≡ x = cc in
        let out : r y ≡ false = subst (λ z. r z ≡ false) (sym same) fails in
        rw out refl
    | inr miss ↦
        let later : first_match p xs ≡ Some x = rw miss at is in
        let rest : list_all r xs ≡ false = all_fails p r xs x later fails in
        elim (cases_Bool (r y)) [
          | inl pass ↦ rw pass rest
          | inr out ↦ rw out refl
        ]
  ]

  -- where the first one passes, one does
  pub any_first : (p q : X → Bool) (xs : List X) (x : X) → first_match p xs ≡ Some x
      → q x ≡ true → list_any q xs ≡ true
  any_first p q [] x is passes = cc
  any_first p q (y ∷ xs) x is passes = elim (cases_Bool (p y)) [
    | inl hit ↦
        let found : Some y ≡ Some x = rw hit at is in
        let same : y ≡ x = cc in
        let here : q y ≡ true = subst (λ z. q z ≡ true) (sym same) passes in
        rw here refl
    | inr miss ↦
        let later : first_match p xs ≡ Some x = rw miss at is in
        let rest : list_any q xs ≡ true = any_first p q xs x later passes in
        elim (cases_Bool (q y)) [
          | inl pass ↦ rw pass refl
          | inr fail ↦ rw fail rest
        ]
  ]

  -- a test that each passes
  pub all_pass : (r : X → Bool) (xs : List X) → AllByRecursion (λ x. r x ≡ true) xs
      → list_all r xs ≡ true
  all_pass r [] all = refl
  all_pass r (x ∷ xs) all = let here : r x ≡ true = all.0 in rw here (all_pass r xs all.1)

  -- and one that each fails
  pub none_passes : (q : X → Bool) (xs : List X) → AllByRecursion (λ x. q x ≡ false) xs
      → (first_match q xs ≡ None) × (without_match q xs ≡ xs)
  none_passes q [] all = (refl, refl)
  none_passes q (x ∷ xs) all =
      let here : q x ≡ false = all.0 in
      let rest = none_passes q xs all.1 in
      (rw here rest.0, rw here (ap (λ l. x ∷ l) rest.1))

-- what is seen of each
module _ {X Y : Type 0} (g : X → Y) where
  pub first-map : (q : Y → Bool) (xs : List X) → first_match q (map g xs)
      ≡ option_map g (first_match (λ x. q (g x)) xs)
  first-map q [] = refl
  first-map q (x ∷ xs) = elim (cases_Bool (q (g x))) [
    | inl hit ↦ rw hit refl
    | inr miss ↦ rw miss (first-map q xs)
  ]

  pub without-map : (q : Y → Bool) (xs : List X) → without_match q (map g xs)
      ≡ map g (without_match (λ x. q (g x)) xs)
  without-map q [] = refl
  without-map q (x ∷ xs) = elim (cases_Bool (q (g x))) [
    | inl hit ↦ rw hit refl
    | inr miss ↦ rw miss (ap (λ l. g x ∷ l) (without-map q xs))
  ]

  pub any-map : (q : Y → Bool) (xs : List X) → list_any q (map g xs) ≡ list_any (λ x. q (g x)) xs
  any-map q [] = refl
  any-map q (x ∷ xs) = ap (λ b. q (g x) || b) (any-map q xs)

  pub filter-map : (q : Y → Bool) (xs : List X) → filter q (map g xs)
      ≡ map g (filter (λ x. q (g x)) xs)
  filter-map q [] = refl
  filter-map q (x ∷ xs) = elim (cases_Bool (q (g x))) [
    | inl hit ↦ rw hit (ap (λ l. g x ∷ l) (filter-map q xs))
    | inr miss ↦ rw miss (filter-map q xs)
  ]
