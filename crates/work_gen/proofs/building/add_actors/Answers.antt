use Rattle.std.proofs.Common.{◌+◌, [], ◌∷◌, arith}
use Rattle.work_gen.specs.Generated.{server}
use Rattle.work_gen.proofs.Fitting.{server_few, one_placed, fewer_placed, peopled_room, server_node}
use Rattle.work_gen.proofs.Fitting.{client_node, client_end, peopled}
use Rattle.work_gen.proofs.building.add_actors.Goals as goal

pub add_server-requires-clause-node : goal.add_server-requires-clause-node
add_server-requires-clause-node c =
    rw c.loop-done.invariant (server_node c.args.n c.loop-done.done c.loop-done-test.true)

pub add_server-requires-clause-room : goal.add_server-requires-clause-room
add_server-requires-clause-room c =
    rw c.loop-done.invariant
    (fewer_placed _ 9 1 (omega arith)
    (peopled_room c.args.n c.loop-done.done c.loop-done-test.true))

pub add_clients-requires-clause-node : goal.add_clients-requires-clause-node
add_clients-requires-clause-node c =
    rw (c.in_ok-add_server.ensures, c.loop-done.invariant)
    (client_node c.args.n c.loop-done.done (server (c.loop-done.done + 1) ∷ [])
    c.loop-done-test.true)

pub add_clients-requires-clause-link : goal.add_clients-requires-clause-link
add_clients-requires-clause-link c =
    rw (c.in_ok-add_server.ensures, c.loop-done.invariant)
    (client_end c.args.n c.loop-done.done (server (c.loop-done.done + 1) ∷ [])
    c.loop-done-test.true)

pub add_clients-requires-clause-room : goal.add_clients-requires-clause-room
add_clients-requires-clause-room c =
    rw (c.in_ok-add_server.ensures, c.loop-done.invariant)
    (one_placed _ (server (c.loop-done.done + 1)) 8 (server_few (c.loop-done.done + 1))
    (peopled_room c.args.n c.loop-done.done c.loop-done-test.true))

pub loop-done-preserved : goal.loop-done-preserved
loop-done-preserved c =
    peopled c.args.n c.loop-done.done c.loop-done.script c.add_server.new.script
    c.add_clients.new.script c.loop-done.invariant c.in_ok-add_server.ensures
    c.in_ok-add_clients.ensures
