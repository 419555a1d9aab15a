use Rattle.std.specs.Prelude.{◌≡◌, List, ◌++◌}

-- the first list is the front of the second
abbrev pub IsFront : {X : Type 0} → List X → List X → Type 0
IsFront {X} xs ys = (later : List X) × (ys ≡ xs ++ later)
