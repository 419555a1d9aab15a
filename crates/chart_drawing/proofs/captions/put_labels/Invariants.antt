use Rattle.std.proofs.Common.{◌≡◌, ◌++◌, drop}
use Rattle.chart_drawing.specs.Rows.{labels_of}
use Rattle.chart_drawing.proofs.captions.put_labels.Given as goal

-- the labels so far, and those of the spots that are left, are those of all
abbrev pub invariant-loop-index : goal.invariant-loop-index
invariant-loop-index l =
    l.out.items ++ labels_of l.setting l.lines (drop l.index l.spots)
    ≡ l.initial.out.items ++ labels_of l.setting l.lines l.spots
