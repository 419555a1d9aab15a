use Rattle.std.proofs.Common.{◌<◌, ◌/◌, arith}
use Rattle.std.proofs.lemmas.Bool.Decides.{nat_tests}
use Rattle.seed_threads.proofs.Tallied.{have_room, of_both}
use Rattle.seed_threads.proofs.tallies.+fn-tally_in_pieces-join+arg2+fn-tally_in_pieces-join+arg3+tally_in_pieces.Goals as goal

pub both-requires : goal.both-requires
both-requires g t c =
    let within : c.args.more / 2 < c.args.more = grind (arith, nat_tests, c.if-more-eq0.false) in
    have_room c.args.bytes.now c.args.actors c.args.first (c.args.more / 2) c.args.more within
    c.requires c.join-front.result.0 c.join-front.result.1 c.join-front.ensures.first
    c.join-front.ensures.second

pub returns : goal.returns
returns g t c =
    let within : c.args.more / 2 < c.args.more = grind (arith, nat_tests, c.if-more-eq0.false) in
    of_both c.args.bytes.now c.args.actors c.args.first (c.args.more / 2) c.args.more within
    c.join-front.result.0 c.join-front.result.1 c.both.result c.join-front.ensures.first
    c.join-front.ensures.second c.both.ensures
