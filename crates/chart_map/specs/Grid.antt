-- The rows of a map: how many steps a row is, and which.
use Rattle.std.specs.Prelude.{ℕ, ◌+◌, ◌-◌, ◌*◌, ◌/◌, ◌==◌, min, nat_le, List, [], ◌∷◌, length}
use Rattle.std.specs.Prelude.{if◌then◌else◌}
use Rattle.journal.specs.declared.effect.Step.{Step}
use Rattle.journal.specs.Histories.{first_steps}
use Rattle.chart_map.specs.declared.grid.Grid.{Grid}

-- how many steps a row is: as few as let 240 rows have them all
abbrev pub steps_in_row : ℕ → ℕ
steps_in_row steps = (steps - 1) / 240 + 1

-- how many rows so many steps have, so many in each: 240 at most
abbrev pub rows_of : ℕ → ℕ → ℕ
rows_of steps in_row = if steps == 0 then 0 else min ((steps - 1) / in_row + 1) 240

-- THE ROWS OF A JOURNAL with these steps
abbrev pub grid_of : List Step → Grid
grid_of S = record {
  steps = length S;
  in_row = steps_in_row (length S);
  rows = rows_of (length S) (steps_in_row (length S));
}

-- how many steps stand before a row
abbrev pub row_begins : Grid → ℕ → ℕ
row_begins grid row = min (grid.in_row * row) grid.steps

-- how many steps stand before the next row
abbrev pub row_ends : Grid → ℕ → ℕ
row_ends grid row = min (row_begins grid row + grid.in_row) grid.steps

-- the position of the first step of a row
abbrev pub first_position : Grid → ℕ → ℕ
first_position grid row = min (row_begins grid row + 1) grid.steps

-- the row of the step at a position
abbrev pub row_of : Grid → ℕ → ℕ
row_of grid position = min ((position - 1) / grid.in_row) 239

-- the steps behind the first ones, so many
abbrev pub behind_first : ℕ → List Step → List Step
behind_first from [] = []
behind_first from (s ∷ P) =
    if nat_le from (length P) then s ∷ behind_first from P else []

-- THE STEPS OF A ROW
abbrev pub steps_of_row : Grid → List Step → ℕ → List Step
steps_of_row grid S row =
    behind_first (row_begins grid row) (first_steps (row_ends grid row) S)
