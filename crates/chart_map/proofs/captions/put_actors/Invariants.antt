use Rattle.std.proofs.Common.{◌≡◌, ◌++◌, take, flat_map}
use Rattle.chart_map.specs.Captions.{actor_shapes}
use Rattle.chart_map.proofs.captions.put_actors.Given as goal

-- the actors so far are drawn
abbrev pub invariant-loop-actor : goal.invariant-loop-actor
invariant-loop-actor l =
    l.out.items ≡ l.initial.out.items
    ++ flat_map (actor_shapes l.setting l.rows) (take l.actor-index l.actor-items)
