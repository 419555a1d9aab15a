use Rattle.std.proofs.Common.{◌≡◌, ◌++◌, drop}
use Rattle.chart_drawing.specs.Bars.{bars_of}
use Rattle.chart_drawing.proofs.bars.put_bars.Given as goal

-- what is drawn so far, and what lasts from the marks that are left, is what lasts from all
abbrev pub invariant-loop-index : goal.invariant-loop-index
invariant-loop-index l =
    l.out.items ++ bars_of l.rows (drop l.index l.spots)
    ≡ l.initial.out.items ++ bars_of l.rows l.spots
