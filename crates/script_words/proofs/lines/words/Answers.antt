use Rattle.std.proofs.Common.{◌==◌, not, length, rules, tests}
use Rattle.std.proofs.lemmas.Iterator.Consumers.{YieldsList-from_filter, map_from_collect}
use Rattle.std.proofs.lemmas.Iterator.Search.{YieldsList-from_take_while}
use Rattle.std.proofs.lemmas.Iterator.Splits.{YieldsList-from_slice_split}
use Rattle.script_words.specs.Lines.{is_space, is_comment, words_of}
use Rattle.script_words.proofs.lines.words.Goals as goal

pub returns : goal.returns
unfolding words_of
returns c =
    map_from_collect _ c.collect.ensures.ran
    (YieldsList-from_take_while _ (λ word. not (is_comment word))
    (YieldsList-from_filter _ (λ word. not (length word == 0))
    (YieldsList-from_slice_split _ is_space c.args.text.now (cc) (cc) (cc)
    (λ x b q k. search (rules, tests)))
    (cc)
    (λ x b q k. search (rules, tests)))
    c.take_while.ensures.closure c.take_while.ensures.done
    (λ x b q k. search (rules, tests)))
