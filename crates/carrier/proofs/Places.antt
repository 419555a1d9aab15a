-- Lists from which an element is taken out, or in which two are exchanged.
use Rattle.std.proofs.Common.{◌≡◌, ◌<◌, ℕ, zero, suc, List, [], ◌∷◌, All, length, map, take, drop}
use Rattle.std.proofs.Common.{get_or, set, refl, sym, ◌∙◌, remove, swap}
use Rattle.std.proofs.lemmas.List.{drop-map, map-append, map-set, take-map}
use Rattle.std.proofs.lemmas.List.Elements.{All-append, All-drop, All-get_or, All-set, All-take}

module _ {X : Type 0} (P : X → Type 0) where
  pub all_left : (xs : List X) (k : ℕ) → All P xs → All P (remove xs k)
  all_left xs k all =
      All-append P (take k xs) (drop (suc k) xs) (All-take P k xs all) (All-drop P (suc k) xs all)

  pub all_swapped : (xs : List X) (i j : ℕ) → i < length xs → j < length xs → All P xs
      → All P (swap xs i j)
  all_swapped [] i j h k all = all
  all_swapped (x ∷ xs) i j h k all =
      All-set P _ j _ (All-get_or P (x ∷ xs) i x h all)
      (All-set P (x ∷ xs) i _ (All-get_or P (x ∷ xs) j x k all) all)

module _ {X Y : Type 0} (f : X → Y) where
  map_get : (xs : List X) (k : ℕ) (d : X) → get_or (map f xs) k (f d) ≡ f (get_or xs k d)
  map_get [] k d = refl
  map_get (x ∷ xs) zero d = refl
  map_get (x ∷ xs) (suc k) d = map_get xs k d

  pub map_removed : (xs : List X) (k : ℕ) → map f (remove xs k) ≡ remove (map f xs) k
  map_removed xs k =
      map-append f (take k xs) (drop (suc k) xs)
      ∙ sym (rw (take-map f k xs, drop-map f (suc k) xs) refl)

  pub map_swapped : (xs : List X) (i j : ℕ) → map f (swap xs i j) ≡ swap (map f xs) i j
  map_swapped [] i j = refl
  map_swapped (x ∷ xs) i j =
      map-set f (set (x ∷ xs) i (get_or (x ∷ xs) j x)) j (get_or (x ∷ xs) i x)
      ∙ rw (
        map-set f (x ∷ xs) i (get_or (x ∷ xs) j x),
        map_get (x ∷ xs) j x,
        map_get (x ∷ xs) i x,
      ) refl
