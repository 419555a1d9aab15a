use Rattle.std.proofs.Common.{◌≡◌, ◌++◌}
use Rattle.chart_map.specs.Cells.{cells_to}
use Rattle.chart_map.proofs.cells.put_cells.Given as goal

-- the cells of the rows so far are there
abbrev pub invariant-loop-row : goal.invariant-loop-row
invariant-loop-row l =
    l.cells.items ≡ l.initial.cells.items ++ cells_to l.journal.log.steps l.strip l.place l.row
