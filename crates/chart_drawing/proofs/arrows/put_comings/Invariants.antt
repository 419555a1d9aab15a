use Rattle.std.proofs.Common.{◌≡◌, ◌++◌, take}
use Rattle.chart_drawing.specs.Arrows.{comings}
use Rattle.chart_drawing.proofs.arrows.put_comings.Given as goal

-- what came so far is drawn
abbrev pub invariant-loop-spot : goal.invariant-loop-spot
invariant-loop-spot l =
    l.out.items
    ≡ l.initial.out.items ++ comings l.spots (take l.spot-index l.seen)
