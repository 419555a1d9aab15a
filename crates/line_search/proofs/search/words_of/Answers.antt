use Rattle.std.proofs.Common.{◌==◌, not, length, rules, tests}
use Rattle.std.proofs.lemmas.Iterator.Consumers.{YieldsList-from_filter, map_from_collect}
use Rattle.std.proofs.lemmas.Iterator.Splits.{YieldsList-from_slice_split}
use Rattle.line_search.specs.Search.{is_gap, words_of}
use Rattle.line_search.proofs.search.words_of.Goals as goal

pub returns : goal.returns
unfolding words_of
returns c =
    map_from_collect _ c.collect.ensures.ran
    (YieldsList-from_filter _ (λ word. not (length word == 0))
    (YieldsList-from_slice_split _ is_gap c.args.line.now (cc) (cc) (cc)
    (λ x b q k. search (rules, tests)))
    (cc)
    (λ x b q k. search (rules, tests)))
