use Rattle.std.proofs.Common.{arith}
use Rattle.work_gen.proofs.Fitting.{client_fits, client_few}
use Rattle.work_gen.proofs.building.add_client.Goals as goal

pub add_actor-requires-clause-few : goal.add_actor-requires-clause-few
add_actor-requires-clause-few c =
    rw c.in_ok-client_commands.ensures (omega (arith, client_few c.args.n c.args.k c.args.i))

pub add_actor-requires-clause-all_few : goal.add_actor-requires-clause-all_few
add_actor-requires-clause-all_few c =
    rw c.in_ok-client_commands.ensures
    (omega (arith, client_few c.args.n c.args.k c.args.i, c.requires.room.commands))

pub add_actor-requires-clause-fits : goal.add_actor-requires-clause-fits
add_actor-requires-clause-fits c =
    rw c.in_ok-client_commands.ensures
    (client_fits c.args.script.now (record { 0 = c.args.k }) c.args.n c.args.k c.args.i
    c.requires.link)
