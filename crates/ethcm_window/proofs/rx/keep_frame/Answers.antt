use Rattle.std.proofs.Common.{◌∙◌, ◌≤◌, ap, sym, drop, length, arith, length-drop}
use Rattle.ethcm_window.specs.Sending.{sent_frame}
use Rattle.ethcm_window.proofs.Keeping.{kept_inserted}
use Rattle.ethcm_window.proofs.Storing.{drop-insert, without_more}
use Rattle.ethcm_window.proofs.rx.keep_frame.Goals as goal

pub returns-in-Ok-insert-clause-ok : goal.returns-in-Ok-insert-clause-ok
returns-in-Ok-insert-clause-ok c =
    let kept = c.args.kept.now.items in
    let below = c.count_below-below.result in
    let s = sent_frame c.args.number c.args.frame in
    let within : c.count_below-below.result ≤ length (drop c.args.gone c.args.kept.now.items) =
    omega (arith, length-drop c.args.gone c.args.kept.now.items) in
    let missing = sym c.has.ensures ∙ c.if-has.false in
    ap (drop c.args.gone) c.in-Ok-insert.ensures.items
    ∙ drop-insert c.args.gone below kept s c.count_below-below.ensures.within
    ∙ kept_inserted s (drop c.args.gone kept) below c.requires.rising
    c.count_below-below.ensures.place within missing

pub returns-in-Ok-insert-clause-was : goal.returns-in-Ok-insert-clause-was
returns-in-Ok-insert-clause-was c =
    let more = without_more c.args.put.now.items _ c.args.kept.now.items _
    c.count_below-below.ensures.within in
    rw (c.push_reserved.ensures.items, c.reserve.ensures.items, c.in-Ok-insert.ensures.items) more
