use Rattle.std.proofs.Common.{◌≡◌, ◌++◌, take, flat_map}
use Rattle.chart_drawing.specs.Ground.{stripe_shapes}
use Rattle.chart_drawing.proofs.ground.put_stripes.Given as goal

-- the stripes of the rows so far are drawn
abbrev pub invariant-loop-spot : goal.invariant-loop-spot
invariant-loop-spot l =
    l.out.items
    ≡ l.initial.out.items ++ flat_map (stripe_shapes l.setting) (take l.spot-index l.spots)
