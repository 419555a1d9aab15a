use Rattle.std.proofs.Common.{◌≡◌, ◌∙◌, ◌-◌, refl, sym, arith, length, drop, drop-drop}
use Rattle.ethcm_window.proofs.Numbering.{sender_now, unchanged_coming, acked_answer}
use Rattle.ethcm_window.proofs.tx.Tx.acked.Goals as goal

pub returns-then-next-self-clause-sent : goal.returns-then-next-self-clause-sent
returns-then-next-self-clause-sent c =
    let t = c.self.inside in
    let tx = sender_now t.window t.base t.gone t.frames.items in
    rw (← c.self.view_is) (c.new.ensures ∙ unchanged_coming tx _ refl)

pub returns-clause-sent : goal.returns-clause-sent
returns-clause-sent c =
    let t = c.self.inside in
    let tx = sender_now t.window t.base t.gone t.frames.items in
    let sent = rw (← c.self.view_is) at c.sent-sent.ensures in
    let len : c.len-len.result ≡ length (drop c.self.inside.gone c.self.inside.frames.items) =
    rw (← c.self.view_is) at c.len-len.ensures.len in
    let left = sym (drop-drop (c.args.next - t.base) t.gone t.frames.items) in
    let waiting = drop-drop c.sent-sent.result t.gone t.frames.items in
    rw (← c.self.view_is) (acked_answer tx c.sent-sent.result sent c.args.next c.min.result _ _
    (omega arith) (omega arith) (rw (← len) (grind arith)) left (rw waiting c.in_ok-coming.ensures))
