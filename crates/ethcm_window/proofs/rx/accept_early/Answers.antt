use Rattle.std.proofs.Common.{arith}
use Rattle.ethcm_window.specs.Sending.{sent_frame}
use Rattle.ethcm_window.proofs.Keeping.{rises_from_zero, rises_early}
use Rattle.ethcm_window.proofs.rx.accept_early.Goals as goal

pub keep_frame-requires-clause-rising : goal.keep_frame-requires-clause-rising
keep_frame-requires-clause-rising c = rises_from_zero c.args.expected _ c.requires.in_order

pub returns-in-Ok-clause-in_order : goal.returns-in-Ok-clause-in_order
returns-in-Ok-clause-in_order c =
    let s = sent_frame c.args.number c.args.frame in
    let order = rises_early c.args.expected _ c.requires.in_order s in
    rw c.in-Ok.ensures.ok (order (omega arith) c.requires.early c.requires.numbered)

pub count-requires-clause-rising : goal.count-requires-clause-rising
count-requires-clause-rising c =
    let s = sent_frame c.args.number c.args.frame in
    let order = rises_early c.args.expected _ c.requires.in_order s in
    rises_from_zero c.args.expected _
    (rw c.in-Ok.ensures.ok (order (omega arith) c.requires.early c.requires.numbered))

pub count-requires-else-number-expected-lt-TOO_EARLY-clause-rising :
    goal.count-requires-else-number-expected-lt-TOO_EARLY-clause-rising
count-requires-else-number-expected-lt-TOO_EARLY-clause-rising c =
    rises_from_zero c.args.expected _ c.requires.in_order
