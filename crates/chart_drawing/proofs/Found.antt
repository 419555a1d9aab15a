-- What is found in a part of a list is found in all of it.
use Rattle.std.proofs.Common.{◌≡◌, ◌∙◌, ℕ, zero, suc, ◌-◌, ◌<◌, ◌≤◌, Bool, true, false, cond, List, [], ◌∷◌}
use Rattle.std.proofs.Common.{length, take, drop, get_or, refl, sym, ap, arith, nat_lt, nat_le, Some}
use Rattle.std.specs.List.{find}
use Rattle.std.specs.List.Sorted.{IsPartitionPoint}
use Rattle.std.proofs.lemmas.Bool.Decides.{nat_tests}
use Rattle.linx_base.specs.Peers.{same_position}
use Rattle.linx_base.specs.declared.identity.ItemAt.{ItemAt}
use Rattle.chart_drawing.specs.declared.spot.Spot.{Spot}
use Rattle.chart_drawing.specs.Spots.{spot_at}

module _ {X : Type 0} (p : X → Bool) where
  -- behind what isn't sought
  found_behind : (xs : List X) (k : ℕ)
      → ((j : ℕ) (d : X) → j < k → j < length xs → p (get_or xs j d) ≡ false)
      → find p xs ≡ find p (drop k xs)
  found_behind [] zero others = refl
  found_behind [] (suc k) others = refl
  found_behind (x ∷ xs) zero others = refl
  found_behind (x ∷ xs) (suc k) others =
      rw (others 0 x (omega arith) (omega arith)) (found_behind xs k
      (λ j d below inside. others (suc j) d (omega arith) (omega arith)))

  -- before what isn't
  found_before : (xs : List X) (k : ℕ)
      → ((j : ℕ) (d : X) → k ≤ j → j < length xs → p (get_or xs j d) ≡ false)
      → find p xs ≡ find p (take k xs)
  found_before [] zero others = refl
  found_before [] (suc k) others = refl
  found_before (x ∷ xs) zero others =
      rw (others 0 x (omega arith) (omega arith)) (found_before xs zero
      (λ j d below inside. others (suc j) d (omega arith) (omega arith)))
  found_before (x ∷ xs) (suc k) others =
      ap (λ r. cond (p x) (Some x) r) (found_before xs k
      (λ j d below inside. others (suc j) d (omega arith) (omega arith)))

module _ {X : Type 0} where
  take_whole : (xs : List X) → take (length xs) xs ≡ xs
  take_whole [] = refl
  take_whole (x ∷ xs) = ap (λ (l : List X). x ∷ l) (take_whole xs)

  take_of_none : (k : ℕ) → take {A = X} k [] ≡ []
  take_of_none zero = refl
  take_of_none (suc k) = refl

  -- all that is left behind the first ones
  take_left : (k : ℕ) (xs : List X) → take (length xs - k) (drop k xs) ≡ drop k xs
  take_left zero xs =
      let all : length xs - 0 ≡ length xs = omega arith in
      ap (λ (n : ℕ). take n xs) all ∙ take_whole xs
  take_left (suc k) [] = take_of_none (0 - suc k)
  take_left (suc k) (x ∷ xs) =
      let rest : length (x ∷ xs) - suc k ≡ length xs - k = omega arith in
      ap (λ (n : ℕ). take n (drop k xs)) rest ∙ take_left k xs

earlier_is_other : (line : ItemAt) (s : Spot) → nat_lt s.mark.line.step line.step ≡ true
    → same_position s.mark.line line ≡ false
earlier_is_other line s before = grind (arith, nat_tests)

later_is_other : (line : ItemAt) (s : Spot) → nat_le s.mark.line.step line.step ≡ false
    → same_position s.mark.line line ≡ false
later_is_other line s behind = grind (arith, nat_tests)

module _ (line : ItemAt) (spots : List Spot) (at : ℕ) where
  pub from_step : IsPartitionPoint (λ (s : Spot). nat_lt s.mark.line.step line.step ≡ true)
      (λ (s : Spot). nat_lt s.mark.line.step line.step ≡ false) spots at
      → spot_at (take (length spots - at) (drop at spots)) line ≡ spot_at spots line
  from_step splits =
      ap (λ (l : List Spot). spot_at l line) (take_left at spots)
      ∙ sym (found_behind (λ (s : Spot). same_position s.mark.line line) spots at
      (λ j d below inside. earlier_is_other line (get_or spots j d)
      (splits.0 j d (omega arith) below)))

  pub to_step : IsPartitionPoint (λ (s : Spot). nat_le s.mark.line.step line.step ≡ true)
      (λ (s : Spot). nat_le s.mark.line.step line.step ≡ false) spots at
      → spot_at (take at spots) line ≡ spot_at spots line
  to_step splits = sym (found_before (λ (s : Spot). same_position s.mark.line line) spots at
      (λ j d above inside. later_is_other line (get_or spots j d)
      (splits.1 j d above inside)))
