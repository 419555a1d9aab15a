use Rattle.std.proofs.Common.{arith}
use Rattle.ethcm_window.proofs.Keeping.{lower_before, none_lower_behind}
use Rattle.ethcm_window.proofs.rx.count_below.Goals as goal

pub search-preserved-then-index-number : goal.search-preserved-then-index-number
search-preserved-then-index-number c =
    let lower = lower_before c.args.gone c.args.number _ c.args.kept.now.items
    c.requires.rising c.index.result.now (omega arith) c.index.ensures c.if-index-number.true in
    record {
      order = omega arith;
      within = c.search.invariant.within;
      below = λ k d from to. lower k d to;
      above = c.search.invariant.above;
    }

pub search-preserved : goal.search-preserved
search-preserved c =
    let behind = none_lower_behind c.args.gone c.args.number _ c.args.kept.now.items
    c.requires.rising c.index.result.now (omega arith) c.index.ensures c.if-index-number.false in
    record {
      order = omega arith;
      within = omega arith;
      below = c.search.invariant.below;
      above = λ k d from to. behind k d from to;
    }
