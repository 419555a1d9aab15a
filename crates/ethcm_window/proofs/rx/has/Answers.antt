use Rattle.std.proofs.Common.{◌∙◌, sym, drop, arith, get_or-drop, length-drop}
use Rattle.ethcm_window.proofs.Keeping.{kept_here, kept_past}
use Rattle.ethcm_window.proofs.rx.has.Goals as goal

pub returns-in-Some : goal.returns-in-Some
returns-in-Some c =
    let kept = c.args.kept.now.items in
    let n = length-drop c.args.gone c.args.kept.now.items in
    let read = get_or-drop c.args.gone kept c.args.below c.in-Some.other.now in
    kept_here c.args.number (drop c.args.gone kept) c.args.below c.requires.rising c.requires.place
    c.in-Some.other.now (grind arith) (c.in-Some.ensures.lookup ∙ sym read)

pub returns-in-None : goal.returns-in-None
returns-in-None c =
    let n = length-drop c.args.gone c.args.kept.now.items in
    kept_past c.args.number _ c.args.below c.requires.rising c.requires.place (grind arith)
