use Rattle.std.proofs.Common.{◌≡◌, max, drop}
use Rattle.chart_map.specs.Cells.{most_of}
use Rattle.chart_map.proofs.cells.most_of.Given as goal

-- the most so far, and that of the cells that are left, give that of all
abbrev pub invariant-loop-cell : goal.invariant-loop-cell
invariant-loop-cell l = max l.most (most_of (drop l.cell-index l.cells)) ≡ most_of l.cells
