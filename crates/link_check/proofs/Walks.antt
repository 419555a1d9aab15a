-- A WALK over a list that looks for one that passes a test: `left` is still to come.
use Rattle.std.proofs.Common.{◌≡◌, ◌<◌, ◌||◌, Bool, true, false, List, [], ◌∷◌, length, drop, Some}
use Rattle.std.proofs.Common.{None, slice_get, sym, ◌∙◌, ap, arith}
use Rattle.std.specs.List.{list_any}

module _ {X : Type 0} (p : X → Bool) (whole : Bool) where
  -- the next one doesn't
  pub any-more : (left rest : List X) (x : X) → Some x ≡ slice_get left 0 → rest ≡ drop 1 left
      → p x ≡ false → list_any p left ≡ whole → list_any p rest ≡ whole
  any-more [] rest x is next fails so_far = cc is
  any-more (y ∷ left) rest x is next fails so_far =
      let same : x ≡ y = cc is in
      ap (list_any p) next
      ∙ sym (ap (λ (b : Bool). b || list_any p left) (ap p (sym same) ∙ fails)) ∙ so_far

  -- the next one does
  pub any-found : (left : List X) (x : X) → Some x ≡ slice_get left 0 → p x ≡ true
      → list_any p left ≡ whole → whole ≡ true
  any-found [] x is passes so_far = cc is
  any-found (y ∷ left) x is passes so_far =
      let same : x ≡ y = cc is in
      sym so_far ∙ ap (λ (b : Bool). b || list_any p left) (ap p (sym same) ∙ passes)

  -- none is left
  pub any-none : (left : List X) → None ≡ slice_get left 0 → list_any p left ≡ whole
      → whole ≡ false
  any-none [] none so_far = sym so_far
  any-none (y ∷ left) none so_far = cc none

pub falls : {X : Type 0} (left rest : List X) (x : X) → Some x ≡ slice_get left 0
    → rest ≡ drop 1 left → length rest < length left
falls [] rest x is next = cc is
falls (y ∷ left) rest x is next =
    let same : length rest ≡ length left = ap (λ (xs : List _). length xs) next in omega (arith, same)
