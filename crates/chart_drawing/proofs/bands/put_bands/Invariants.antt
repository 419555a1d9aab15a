use Rattle.std.proofs.Common.{◌≡◌, ◌++◌, take, flat_map}
use Rattle.chart_drawing.specs.declared.spot.Spot.{Spot}
use Rattle.chart_drawing.specs.Bands.{band_of}
use Rattle.chart_drawing.proofs.bands.put_bands.Given as goal

-- the marks so far are looked at
abbrev pub invariant-loop-spot : goal.invariant-loop-spot
invariant-loop-spot l = l.out.items
    ≡ l.initial.out.items ++ flat_map (λ (s : Spot). band_of l.setting l.rows l.spots s.mark.kind s)
    (take l.spot-index l.spots)
