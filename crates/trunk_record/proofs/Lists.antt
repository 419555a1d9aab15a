use Rattle.std.proofs.Common.{List, [], ◌∷◌}
use Rattle.std.specs.List.{AllByRecursion}

-- what holds of each element has what follows from it hold of each
pub all-impl : {X : Type 0} (P Q : X → Type 0) → ((x : X) → P x → Q x) → (xs : List X)
    → AllByRecursion P xs → AllByRecursion Q xs
all-impl P Q h [] all = tt
all-impl P Q h (x ∷ xs) all = (h x all.0, all-impl P Q h xs all.1)
