-- What holds of every element holds of those that are left.
use Rattle.std.proofs.Common.{Bool, true, false, cond, List, [], ◌∷◌, ◌++◌, filter}
use Rattle.std.specs.List.{AllByRecursion}

module _ {X : Type 0} (P : X → Type 0) where
  pub all_push : (xs : List X) (x : X) → AllByRecursion P xs → P x → AllByRecursion P (xs ++ x ∷ [])
  all_push [] x all here = (here, tt)
  all_push (y ∷ ys) x all here = (all.0, all_push ys x all.1 here)

  pub all_filter : (p : X → Bool) (xs : List X) → AllByRecursion P xs
      → AllByRecursion P (filter p xs)
  all_filter p [] all = all
  all_filter p (x ∷ xs) all =
      elim (p x) as (λ b. AllByRecursion P (cond b (x ∷ filter p xs) (filter p xs))) [
        | true ↦ (all.0, all_filter p xs all.1)
        | false ↦ all_filter p xs all.1
      ]
