use Rattle.std.proofs.Common.{ℕ, List, ap, ◌∙◌}
use Rattle.script_lang.specs.Parts.{ScriptParts, with_node}
use Rattle.work_gen.specs.Generated.{built}
use Rattle.work_gen.proofs.Nodes.{node_room, node_fresh, noded}
use Rattle.work_gen.proofs.building.add_nodes.Goals as goal

pub add_node-requires-clause-room : goal.add_node-requires-clause-room
add_node-requires-clause-room c =
    rw c.loop-done.invariant (node_room c.args.n c.loop-done.done c.loop-done-test.true)

pub add_node-requires-clause-fresh : goal.add_node-requires-clause-fresh
add_node-requires-clause-fresh c =
    rw (c.loop-done.invariant, c.in_ok-numbered_name.ensures)
    (node_fresh c.args.n c.loop-done.done c.loop-done-test.true)

pub loop-done-preserved : goal.loop-done-preserved
loop-done-preserved c =
    let n = c.args.n in
    let done = c.loop-done.done in
    c.in_ok-add_node.ensures.ok
    ∙ ap (λ (s : ScriptParts). with_node s c.in_ok-numbered_name.field-0) c.loop-done.invariant
    ∙ ap (λ (name : List ℕ). with_node (built n done 0 0) name) c.in_ok-numbered_name.ensures
    ∙ noded n done
