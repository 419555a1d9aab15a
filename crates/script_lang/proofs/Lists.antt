use Rattle.std.proofs.Common.{◌≡◌, Bool, true, false, List, [], ◌∷◌, ◌++◌, refl, ◌∙◌}
use Rattle.std.specs.List.{list_all, list_any}
use Rattle.std.proofs.lemmas.Bool.{and_parts, and_from, or_from}
use Rattle.std.proofs.lemmas.List.Folds.{list_any-append}

module _ {X : Type 0} where
  -- what passes one test passes a weaker one
  pub list_all_weaken : (p q : X → Bool) (xs : List X) → ((x : X) → p x ≡ true → q x ≡ true)
      → list_all p xs ≡ true → list_all q xs ≡ true
  list_all_weaken p q [] weaker h = refl
  list_all_weaken p q (x ∷ xs) weaker h =
      let parts = and_parts (p x) (list_all p xs) h in
      and_from _ _ (weaker x parts.0) (list_all_weaken p q xs weaker parts.1)

  -- one more element that fails
  pub list_any_push : (p : X → Bool) (xs : List X) (x : X)
      → list_any p xs ≡ false → p x ≡ false → list_any p (xs ++ x ∷ []) ≡ false
  list_any_push p xs x none one =
      list_any-append p xs (x ∷ []) ∙ or_from _ _ none (or_from _ _ one refl)
