use Rattle.std.proofs.Common.{◌≡◌, ℕ, List, length, arith}
use Rattle.text_logs.proofs.Alike.{alike_all}
use Rattle.text_logs.proofs.comparing.alike.Goals as goal

pub returns-clause-same : goal.returns-clause-same
returns-clause-same c =
    let other : List ℕ = c.args.other.now in
    let all : c.loop-index.index ≡ length other = omega arith in
    alike_all c.args.text.now other c.loop-index.index all c.loop-index.invariant.0
