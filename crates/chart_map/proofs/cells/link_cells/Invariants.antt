use Rattle.std.proofs.Common.{◌≡◌, take, flat_map}
use Rattle.chart_map.specs.Cells.{link_cells}
use Rattle.chart_map.proofs.cells.link_cells.Given as goal

-- the cells of the links so far are there
abbrev pub invariant-loop-link : goal.invariant-loop-link
invariant-loop-link l =
    l.cells.items
    ≡ flat_map (link_cells l.setting l.journal.log.steps) (take l.link-index l.link-items)
