use Rattle.std.proofs.Common.{◌≡◌, ◌++◌, take, flat_map}
use Rattle.chart_map.specs.Captions.{node_shapes}
use Rattle.chart_map.proofs.captions.put_nodes.Given as goal

-- the nodes so far are drawn
abbrev pub invariant-loop-node : goal.invariant-loop-node
invariant-loop-node l =
    l.out.items ≡ l.initial.out.items
    ++ flat_map (node_shapes l.setting) (take l.node-index l.node-items)
