use Rattle.std.proofs.Common.{arith}
use Rattle.std.proofs.lemmas.List.Sorted.{IsNonDecreasingBy-from_all_adjacent}
use Rattle.chart_drawing.specs.declared.spot.Spot.{Spot}
use Rattle.chart_drawing.proofs.spots.are_in_order.Goals as goal

pub returns : goal.returns
returns c is =
    IsNonDecreasingBy-from_all_adjacent (λ (s : Spot). s.mark.line.step) c.args.spots.now
    (λ k d below. c.loop-place.invariant.0 k d (omega arith))
