use Rattle.std.proofs.Common.{◌≡◌, ◌+◌, length, drop, arith, refl}
use Rattle.std.proofs.lemmas.List.{drop-append-le}
use Rattle.ethcm_window.proofs.Numbering.{sender_now, offered_answer}
use Rattle.ethcm_window.proofs.tx.Tx.offer.Goals as goal

pub returns-clause-sent : goal.returns-clause-sent
returns-clause-sent c =
    let t = c.self.inside in
    let tx = sender_now t.window t.base t.gone t.frames.items in
    let sent = rw (← c.self.view_is) at c.sent.ensures in
    let len : c.len-len.result ≡ length (drop c.self.inside.gone c.self.inside.frames.items) =
    rw (← c.self.view_is) at c.len-len.ensures.len in
    let frames = drop-append-le _ _ _ c.self.invariant.gone_within in
    rw (← c.self.view_is) (offered_answer tx c.sent.result sent (t.base + c.len-len.result)
    c.min.result c.from_vec-offered.result.items _ _ (rw len refl) (grind arith)
    (rw c.in-Ok-append.ensures.items frames) c.in-Ok.ensures)
