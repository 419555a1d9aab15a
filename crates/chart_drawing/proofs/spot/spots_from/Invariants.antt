use Rattle.std.proofs.Common.{◌≡◌, ◌++◌, false, drop}
use Rattle.chart_drawing.specs.Spots.{spots_from}
use Rattle.chart_drawing.proofs.spot.spots_from.Given as goal

-- the spots so far, and those of the marks that are left, are those of all
abbrev pub invariant-loop-place : goal.invariant-loop-place
invariant-loop-place l =
    l.spots.items ++ spots_from l.setting l.place l.row l.quiet (drop l.place l.marks)
    ≡ spots_from l.setting 0 l.first false l.marks
