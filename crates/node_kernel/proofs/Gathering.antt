-- Lists gathered element by element.
use Rattle.std.proofs.Common.{◌≡◌, ℕ, ◌+◌, ◌<◌, Bool, true, false, ◌&&◌, cond, List, [], ◌∷◌, ◌++◌}
use Rattle.std.proofs.Common.{length, map, take, drop, get_or, refl, ap, sym, subst, ◌∙◌, arith}
use Rattle.std.proofs.Common.{Some, None, slice_get, filter, append_assoc, append-nil}
use Rattle.std.specs.List.{AllByRecursion}
use Rattle.std.proofs.lemmas.List.{map_push, take_more}
use Rattle.journal.proofs.Lists.{filter-filter}

module _ {X : Type 0} where
  -- A WALK over a list: `left` is still to come, and `rest` is that without the next one
  pub falls : (left rest : List X) (x : X) → Some x ≡ slice_get left 0 → rest ≡ drop 1 left
      → length rest < length left
  falls [] rest x is next = cc is
  falls (y ∷ left) rest x is next =
      let same : length rest ≡ length left = ap length next in omega (arith, same)

  pub all_next : (P : X → Type 0) (left : List X) (x : X) → AllByRecursion P left
      → Some x ≡ slice_get left 0 → P x
  all_next P [] x all is = cc is
  all_next P (y ∷ left) x all is = let same : y ≡ x = cc is in subst P same all.0

  pub all_rest : (P : X → Type 0) (left rest : List X) → AllByRecursion P left → rest ≡ drop 1 left
      → AllByRecursion P rest
  all_rest P [] rest all next = subst (AllByRecursion P) (sym next) tt
  all_rest P (y ∷ left) rest all next = subst (AllByRecursion P) (sym next) all.1

  -- what is read of those that came, and of those still to come, is what is read of all
  module _ {Y : Type 0} (f : X → Y) (whole : List Y) where
    pub gathered : (left : List X) (now : List Y) → None ≡ slice_get left 0
        → now ++ map f left ≡ whole → now ≡ whole
    gathered [] now none so_far = sym (append-nil now) ∙ so_far
    gathered (y ∷ left) now none so_far = cc none

    pub gather_more : (left rest : List X) (now after : List Y) (x : X) (y : Y)
        → Some x ≡ slice_get left 0 → rest ≡ drop 1 left → y ≡ f x → after ≡ now ++ y ∷ []
        → now ++ map f left ≡ whole → after ++ map f rest ≡ whole
    gather_more [] rest now after x y is next read more so_far = cc is
    gather_more (z ∷ left) rest now after x y is next read more so_far =
        let same : x ≡ z = cc is in
        let one : y ≡ f z = read ∙ ap f same in
        (λ i. more i ++ map f (next i)) ∙ ap (λ v. (now ++ v ∷ []) ++ map f left) one
        ∙ append_assoc now (f z ∷ []) (map f left) ∙ so_far

    -- the same of those that pass a test
    module _ (p : X → Bool) where
      pub picked : (left : List X) (now : List Y) → None ≡ slice_get left 0
          → now ++ map f (filter p left) ≡ whole → now ≡ whole
      picked [] now none so_far = sym (append-nil now) ∙ so_far
      picked (y ∷ left) now none so_far = cc none

      pub pick_more : (left rest : List X) (now after : List Y) (x : X) (y : Y)
          → Some x ≡ slice_get left 0 → rest ≡ drop 1 left → p x ≡ true → y ≡ f x
          → after ≡ now ++ y ∷ [] → now ++ map f (filter p left) ≡ whole
          → after ++ map f (filter p rest) ≡ whole
      pick_more [] rest now after x y is next passes read more so_far = cc is
      pick_more (z ∷ left) rest now after x y is next passes read more so_far =
          let same : x ≡ z = cc is in
          let one : y ≡ f z = read ∙ ap f same in
          let with : filter p (z ∷ left) ≡ z ∷ filter p left =
          ap (λ b. cond b (z ∷ filter p left) (filter p left)) (ap p (sym same) ∙ passes) in
          (λ i. more i ++ map f (filter p (next i)))
          ∙ ap (λ v. (now ++ v ∷ []) ++ map f (filter p left)) one
          ∙ append_assoc now (f z ∷ []) (map f (filter p left))
          ∙ ap (λ l. now ++ map f l) (sym with) ∙ so_far

      pub pick_none : (left rest : List X) (now : List Y) (x : X) → Some x ≡ slice_get left 0
          → rest ≡ drop 1 left → p x ≡ false → now ++ map f (filter p left) ≡ whole
          → now ++ map f (filter p rest) ≡ whole
      pick_none [] rest now x is next fails so_far = cc is
      pick_none (z ∷ left) rest now x is next fails so_far =
          let same : x ≡ z = cc is in
          let past : filter p (z ∷ left) ≡ filter p left =
          ap (λ b. cond b (z ∷ filter p left) (filter p left)) (ap p (sym same) ∙ fails) in
          ap (λ l. now ++ map f (filter p l)) next ∙ ap (λ l. now ++ map f l) (sym past) ∙ so_far

  -- two filters in the other order
  pub filter_swap : (p q : X → Bool) (xs : List X) → filter p (filter q xs) ≡ filter q (filter p xs)
  filter_swap p q xs = filter-filter p q xs ∙ alike xs ∙ sym (filter-filter q p xs)
    where
      and_comm : (a b : Bool) → (a && b) ≡ (b && a)
      and_comm true true = refl
      and_comm true false = refl
      and_comm false true = refl
      and_comm false false = refl

      alike : (xs : List X) → filter (λ x. q x && p x) xs ≡ filter (λ x. p x && q x) xs
      alike [] = refl
      alike (x ∷ xs) = rw (and_comm (q x) (p x)) (ap (λ l. cond (p x && q x) (x ∷ l) l) (alike xs))

  -- what is read of one element more
  pub map-take_more : {Y : Type 0} (f : X → Y) (xs : List X) (k : ℕ) (x : X) → k < length xs
      → x ≡ get_or xs k x → map f (take (k + 1) xs) ≡ map f (take k xs) ++ f x ∷ []
  map-take_more f xs k x within is =
      ap (map f) (take_more xs k x within) ∙ map_push f (take k xs) (get_or xs k x)
      ∙ ap (λ y. map f (take k xs) ++ f y ∷ []) (sym is)
