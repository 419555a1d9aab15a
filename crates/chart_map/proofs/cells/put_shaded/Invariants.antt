use Rattle.std.proofs.Common.{◌≡◌, ◌++◌, take, flat_map}
use Rattle.chart_map.specs.Cells.{cell_shapes}
use Rattle.chart_map.proofs.cells.put_shaded.Given as goal

-- the cells so far are drawn
abbrev pub invariant-loop-cell : goal.invariant-loop-cell
invariant-loop-cell l =
    l.out.items
    ≡ l.initial.out.items ++ flat_map (cell_shapes l.most) (take l.cell-index l.cells)
