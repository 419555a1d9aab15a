use Rattle.std.proofs.Common.{◌≡◌, ◌++◌, take, flat_map}
use Rattle.chart_map.specs.Captions.{link_shapes}
use Rattle.chart_map.proofs.captions.put_links.Given as goal

-- the links so far are drawn
abbrev pub invariant-loop-link : goal.invariant-loop-link
invariant-loop-link l =
    l.out.items ≡ l.initial.out.items
    ++ flat_map (link_shapes l.setting l.rows) (take l.link-index l.link-items)
