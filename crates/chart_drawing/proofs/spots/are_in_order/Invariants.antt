use Rattle.std.proofs.Common.{◌≤◌}
use Rattle.std.specs.List.{AllAdjacentBelow}
use Rattle.chart_drawing.specs.declared.spot.Spot.{Spot}
use Rattle.chart_drawing.proofs.spots.are_in_order.Given as goal

-- up to here no step is before that of the spot before it
abbrev pub invariant-loop-place : goal.invariant-loop-place
invariant-loop-place l =
    AllAdjacentBelow (λ (x y : Spot). x.mark.line.step ≤ y.mark.line.step) l.spots l.place × (1 ≤ l.place)
