use Rattle.std.specs.Prelude.{◌≡◌, Bool, true, false, List, [], ◌∷◌, ◌++◌, if◌then◌else◌}
use Rattle.std.specs.Prelude.{Option, Some, None}
use Rattle.std.specs.List.{All}

-- the first element that passes a test
abbrev pub first_match : {X : Type 0} → (X → Bool) → List X → Option X
first_match p [] = None
first_match p (x ∷ xs) = if p x then Some x else first_match p xs

-- the list without the first element that passes: the others keep their order
abbrev pub without_match : {X : Type 0} → (X → Bool) → List X → List X
without_match p [] = []
without_match p (x ∷ xs) = if p x then xs else x ∷ without_match p xs

-- ys, which stands beside xs, without what stands beside the first element of xs that passes
abbrev pub without_beside : {X Y : Type 0} → (X → Bool) → List X → List Y → List Y
without_beside p [] ys = ys
without_beside p (x ∷ xs) [] = []
without_beside p (x ∷ xs) (y ∷ ys) = if p x then ys else y ∷ without_beside p xs ys

-- x passes, all that stands before it in xs fails, and ys is xs without it
pub record TakesEarliest {X : Type 0} (p : X → Bool) (xs : List X) (x : X) (ys : List X) : Type 0
  where
    pub front : List X
    pub back : List X
    pub was : xs ≡ front ++ x ∷ back
    pub earlier : All (λ y. p y ≡ false) front
    pub passes : p x ≡ true
    pub left : ys ≡ front ++ back
