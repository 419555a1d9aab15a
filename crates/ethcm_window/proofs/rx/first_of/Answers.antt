use Rattle.std.proofs.Common.{arith}
use Rattle.ethcm_window.proofs.Keeping.{front_missing, front_kept}
use Rattle.ethcm_window.proofs.rx.first_of.Goals as goal

pub returns-then-first-number-clause-frame : goal.returns-then-first-number-clause-frame
returns-then-first-number-clause-frame c =
    (front_missing c.args.gone c.args.number c.args.kept.now.items c.in-Some.first.now
    c.requires.rising c.in-Some.ensures.lookup c.if-first-number.true).0

pub returns-then-first-number-clause-none : goal.returns-then-first-number-clause-none
returns-then-first-number-clause-none c =
    (front_missing c.args.gone c.args.number c.args.kept.now.items c.in-Some.first.now
    c.requires.rising c.in-Some.ensures.lookup c.if-first-number.true).1

pub returns-else-first-number-clause-some : goal.returns-else-first-number-clause-some
returns-else-first-number-clause-some c =
    (front_kept c.args.gone c.args.number c.args.kept.now.items c.in-Some.first.now
    c.requires.rising c.in-Some.ensures.lookup (grind arith) c.if-first-number.false).0

pub returns-else-first-number-clause-below : goal.returns-else-first-number-clause-below
returns-else-first-number-clause-below c =
    (front_kept c.args.gone c.args.number c.args.kept.now.items c.in-Some.first.now
    c.requires.rising c.in-Some.ensures.lookup (grind arith) c.if-first-number.false).1
