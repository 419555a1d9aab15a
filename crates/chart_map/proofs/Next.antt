-- One row more, quotients that stay small, and fronts that are all.
use Rattle.std.proofs.Common.{◌≡◌, ℕ, suc, ◌+◌, ◌*◌, ◌/◌, ◌≤◌, List, [], ◌∷◌, ◌++◌, length, take}
use Rattle.std.proofs.Common.{ap, arith}
use Rattle.std.proofs.Math.Nat.{div-le_self}
use Rattle.std.proofs.lemmas.List.{take_all}
use Rattle.journal.specs.declared.effect.Step.{Step}
use Rattle.chart_map.specs.declared.cells.Place.{Place}
use Rattle.chart_map.specs.declared.grid.Grid.{Grid}
use Rattle.chart_map.specs.declared.strips.Strip.{Strip}
use Rattle.chart_map.specs.Captions.{row_numbers, number_shapes}
use Rattle.chart_map.specs.Cells.{cells_to, cell_of}

pub cells_next : (S : List Step) (strip : Strip) (place : Place) (row : ℕ)
    → cells_to S strip place (row + 1)
    ≡ cells_to S strip place row ++ cell_of S strip place row ∷ []
cells_next S strip place row =
    let e : row + 1 ≡ suc row = omega arith in ap (λ (r : ℕ). cells_to S strip place r) e

pub numbers_next : (grid : Grid) (k : ℕ)
    → row_numbers grid (k + 1) ≡ row_numbers grid k ++ number_shapes grid (20 * k)
numbers_next grid k =
    let e : k + 1 ≡ suc k = omega arith in ap (λ (r : ℕ). row_numbers grid r) e

pub quotient_small : (n k : ℕ) → n / k ≤ n
quotient_small n k = div-le_self n k

pub taken_all : {T : Type 0} (n : ℕ) (xs : List T) → length xs ≤ n → take n xs ≡ xs
taken_all n xs few = take_all n xs few
