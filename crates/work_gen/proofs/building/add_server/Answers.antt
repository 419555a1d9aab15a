use Rattle.std.proofs.Common.{◌+◌, arith}
use Rattle.work_gen.proofs.Fitting.{server_fits, server_few}
use Rattle.work_gen.proofs.building.add_server.Goals as goal

pub add_actor-requires-clause-few : goal.add_actor-requires-clause-few
add_actor-requires-clause-few c =
    rw c.in_ok-server_commands.ensures (omega (arith, server_few c.args.k))

pub add_actor-requires-clause-all_few : goal.add_actor-requires-clause-all_few
add_actor-requires-clause-all_few c =
    rw c.in_ok-server_commands.ensures
    (omega (arith, server_few c.args.k, c.requires.room.commands))

pub add_actor-requires-clause-fits : goal.add_actor-requires-clause-fits
add_actor-requires-clause-fits c =
    rw c.in_ok-server_commands.ensures
    (server_fits c.args.script.now (record { 0 = c.args.k + 1 }) c.args.k)
