use Rattle.std.proofs.Common.{◌≡◌, ◌++◌, drop}
use Rattle.chart_drawing.specs.Rows.{lines_of}
use Rattle.chart_drawing.proofs.captions.put_lines.Given as goal

-- the lines so far, and those of the spots that are left, are those of all
abbrev pub invariant-loop-index : goal.invariant-loop-index
invariant-loop-index l =
    l.out.items ++ lines_of l.view l.lines (drop l.index l.spots)
    ≡ l.initial.out.items ++ lines_of l.view l.lines l.spots
