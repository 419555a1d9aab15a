use Rattle.std.proofs.Common.{◌∙◌, sym, drop, arith, get_or-drop, length-drop}
use Rattle.ethcm_window.proofs.Keeping.{count_here, count_past}
use Rattle.ethcm_window.proofs.rx.count.Goals as goal

pub returns-in-Some : goal.returns-in-Some
returns-in-Some c =
    let kept = c.args.kept.now.items in
    let n = length-drop c.args.gone c.args.kept.now.items in
    let read = get_or-drop c.args.gone kept c.count_below.result c.in-Some.next.now in
    count_here c.args.expected (drop c.args.gone kept) c.count_below.result
    c.count_below.ensures.place c.in-Some.next.now (grind arith)
    (c.in-Some.ensures.lookup ∙ sym read)

pub returns-in-None : goal.returns-in-None
returns-in-None c =
    let n = length-drop c.args.gone c.args.kept.now.items in
    count_past c.args.expected _ c.count_below.result c.count_below.ensures.place (grind arith)
