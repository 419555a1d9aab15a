use Rattle.std.proofs.Common.{◌≡◌, ◌++◌, drop}
use Rattle.chart_drawing.specs.Rows.{rows_of}
use Rattle.chart_drawing.proofs.rows.rows_of.Given as goal

-- the rows so far, and those of the spots that are left, are those of all
abbrev pub invariant-loop-index : goal.invariant-loop-index
invariant-loop-index l =
    l.rows.items ++ rows_of l.setting l.lines (drop l.index l.spots)
    ≡ rows_of l.setting l.lines l.spots
