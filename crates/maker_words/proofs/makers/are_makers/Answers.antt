use Rattle.std.proofs.Common.{is_some, lit<, rules, tests}
use Rattle.std.proofs.lemmas.Iterator.Search.{all_from_yields_List}
use Rattle.std.proofs.lemmas.Iterator.Splits.{YieldsList-from_str_split}
use Rattle.maker_words.specs.Makers.{are_makers, maker_spelled}
use Rattle.maker_words.proofs.makers.are_makers.Goals as goal

pub returns : goal.returns
unfolding are_makers
returns c =
    all_from_yields_List (λ word. is_some (maker_spelled word)) _ _ _ c.all.ensures.ran
    (YieldsList-from_str_split 44 c.args.text.now (lit< tt) c.split.ensures.text
    c.split.ensures.has_more c.split.ensures.pattern)
    (λ x b q k. search (rules, tests))
