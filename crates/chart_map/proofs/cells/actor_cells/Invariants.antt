use Rattle.std.proofs.Common.{◌≡◌, take, flat_map}
use Rattle.chart_map.specs.Cells.{actor_cells}
use Rattle.chart_map.proofs.cells.actor_cells.Given as goal

-- the cells of the actors so far are there
abbrev pub invariant-loop-actor : goal.invariant-loop-actor
invariant-loop-actor l =
    l.cells.items
    ≡ flat_map (actor_cells l.setting l.journal.log.steps) (take l.actor-index l.actor-items)
