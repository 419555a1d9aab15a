use Rattle.std.proofs.Common.{◌<◌, ◌/◌, map, string_bytes, arith}
use Rattle.std.proofs.lemmas.Bool.Decides.{nat_tests}
use Rattle.seed_threads.proofs.Joining.{in_both}
use Rattle.seed_threads.proofs.pieces.+find_in_pieces+fn-find_in_pieces-join+arg2+fn-find_in_pieces-join+arg3.Goals as goal

pub returns : goal.returns
returns g t c =
    let within : c.args.more / 2 < c.args.more = grind (arith, nat_tests, c.if-more-eq0.false) in
    rw c.front_or_behind.ensures (in_both c.args.bytes.now c.args.sought
    (map string_bytes c.args.wanted.now) c.args.first (c.args.more / 2) c.args.more within
    c.join-front.result.0 c.join-front.result.1 c.join-front.ensures.first c.join-front.ensures.second)
