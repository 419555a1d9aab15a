use Rattle.std.proofs.Common.{◌≡◌, ◌++◌, Some, take, flat_map}
use Rattle.chart_drawing.specs.declared.setting.DrawnLink.{DrawnLink}
use Rattle.chart_drawing.specs.Folds.{tally_of, tally_shapes}
use Rattle.chart_drawing.proofs.runs.put_fold.Given as goal

-- the lanes so far have their tallies
abbrev pub invariant-loop-link : goal.invariant-loop-link
invariant-loop-link l = l.out.items
    ≡ l.initial.out.items
    ++ flat_map
    (λ (k : DrawnLink). tally_shapes l.setting l.row k (tally_of (Some k.link.0) l.run))
    (take l.link-index l.links)
