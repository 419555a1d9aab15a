use Rattle.std.proofs.Common.{◌+◌, ◌*◌, ◌-◌, arith}
use Rattle.work_gen.proofs.Fitting.{clients_placed, fewer_placed, client_added}
use Rattle.work_gen.proofs.building.add_clients.Goals as goal

pub add_client-requires-clause-room : goal.add_client-requires-clause-room
add_client-requires-clause-room c =
    let s = c.args.script.now in
    let done = c.loop-done.done in
    rw c.loop-done.invariant
    (clients_placed s c.args.n c.args.k (8 * (c.args.k - 1) + 1) done 1
    (fewer_placed s 8 (done + 1) (omega arith) c.requires.room))

pub loop-done-preserved : goal.loop-done-preserved
loop-done-preserved c =
    client_added c.args.script.now c.loop-done.script c.add_client.new.script c.args.n c.args.k
    (8 * (c.args.k - 1) + 1) c.loop-done.done c.loop-done.invariant c.in_ok-add_client.ensures
