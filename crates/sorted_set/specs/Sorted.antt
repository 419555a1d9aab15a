use Rattle.std.specs.Prelude.{◌≡◌, List, [], ◌∷◌, filter, ⊤}
use Rattle.std.specs.List.{AllByRecursion}
use Rattle.std.specs.declared.cmp.Ordering.{Ordering}
use Rattle.std.specs.declared.cmp.Ordering.TheVariants.{Less, Greater}
use Rattle.std.specs.Ordering.{is_le}

-- each element is below those after it
abbrev pub Ascends : {X : Type 0} → (X → X → Ordering) → List X → Type 0
Ascends cmp [] = ⊤
Ascends cmp (x ∷ xs) = AllByRecursion (λ y. cmp x y ≡ Less) xs × Ascends cmp xs

-- the elements that aren't below x
abbrev pub elements_from : {X : Type 0} → (X → X → Ordering) → X → List X → List X
elements_from cmp x xs = filter (λ y. is_le (cmp x y)) xs

-- all elements are below x
abbrev pub AreBelow : {X : Type 0} → (X → X → Ordering) → X → List X → Type 0
AreBelow cmp x ys = AllByRecursion (λ y. cmp x y ≡ Greater) ys

-- all elements are above x
abbrev pub AreAbove : {X : Type 0} → (X → X → Ordering) → X → List X → Type 0
AreAbove cmp x ys = AllByRecursion (λ y. cmp x y ≡ Less) ys
