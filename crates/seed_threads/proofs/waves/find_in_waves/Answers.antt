use Rattle.std.proofs.Common.{◌≤◌, map, string_bytes, arith}
use Rattle.seed_threads.proofs.Joining.{stopped_at}
use Rattle.seed_threads.proofs.waves.find_in_waves.Goals as goal

pub returns-in-Err : goal.returns-in-Err
returns-in-Err g c =
    let stands = c.waves.invariant in
    let within : c.min-wave.result ≤ c.waves.left = grind arith in
    stopped_at c.args.bytes.now c.args.sought (map string_bytes c.args.wanted.now) c.args.first
    c.args.more c.waves.from c.waves.left c.min-wave.result stands.0.low stands.0.same within stands.1
    c.in-Err.stop c.in-Err.ensures
