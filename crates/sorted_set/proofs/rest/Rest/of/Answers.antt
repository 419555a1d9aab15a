use Rattle.std.proofs.Common.{◌<◌, length, arith}
use Rattle.std.proofs.lemmas.Bool.Decides.{nat_tests}
use Rattle.sorted_set.proofs.Walking.{some_ready}
use Rattle.sorted_set.proofs.rest.Rest.of.Goals as goal

pub made-requires : goal.made-requires
made-requires g c =
    let some : 0 < length c.args.here.now = grind (arith, nat_tests) in
    some_ready c.args.here.now c.args.later.now some c.requires
