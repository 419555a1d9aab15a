-- A list in chunks of neighbours.
use Rattle.std.specs.Prelude.{◌≡◌, ℕ, suc, ◌<◌, Bool, true, List, [], ◌∷◌, length, take, drop}
use Rattle.std.specs.List.{AllByRecursion, flat_map}
use Rattle.std.specs.declared.cmp.Ordering.{Ordering}
use Rattle.std.specs.Ordering.{is_ge}
use Rattle.sorted_set.specs.Sorted.{Ascends, AreBelow, AreAbove}

-- the elements of some chunks, in order
abbrev pub joined : {X : Type 0} → List (List X) → List X
joined chunks = flat_map (λ chunk. chunk) chunks

-- no chunk is empty
abbrev pub AreFilled : {X : Type 0} → List (List X) → Type 0
AreFilled chunks = AllByRecursion (λ chunk. 0 < length chunk) chunks

-- no chunk is empty, and the elements of all ascend
pub record AreChunks {X : Type 0} (cmp : X → X → Ordering) (chunks : List (List X)) : Type 0 where
  pub filled : AreFilled chunks
  pub ascending : Ascends cmp (joined chunks)

-- the chunk doesn't begin above x
abbrev pub begins_by : {X : Type 0} → (X → X → Ordering) → X → List X → Bool
begins_by cmp x [] = true
begins_by cmp x (y ∷ ys) = is_ge (cmp x y)

-- x can stand in the chunk at this place alone
pub record IsPlaceFor {X : Type 0} (cmp : X → X → Ordering) (x : X) (chunks : List (List X))
    (at : ℕ) : Type 0 where
  pub within : at < length chunks
  pub before : AreBelow cmp x (joined (take at chunks))
  pub after : AreAbove cmp x (joined (drop (suc at) chunks))

-- a walk stands at an element, unless none is left: no chunk after this one is empty, and none is
-- left where this one is
pub record IsReady {X : Type 0} (here : List X) (later : List (List X)) : Type 0 where
  pub filled : AreFilled later
  pub stands : length here ≡ 0 → later ≡ []
