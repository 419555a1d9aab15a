use Rattle.std.proofs.Common.{arith, drop-drop}
use Rattle.ethcm_window.proofs.Numbering.{sender_now, resend_answer}
use Rattle.ethcm_window.proofs.tx.Tx.resend.Goals as goal

pub returns : goal.returns
returns c =
    let t = c.self.inside in
    let tx = sender_now t.window t.base t.gone t.frames.items in
    let sent = rw (← c.self.view_is) at c.sent-sent.ensures in
    let answer = resend_answer tx c.sent-sent.result sent in
    rw (← c.self.view_is) (answer c.args.next c.args.count c.min-from.result c.min.result
    c.numbered.result (omega arith) c.min.ensures
    (rw (drop-drop c.min-from.result t.gone t.frames.items) c.numbered.ensures))
