use Rattle.std.proofs.Common.{arith}
use Rattle.std.proofs.lemmas.Str.Pattern.{strip_prefix_char}
use Rattle.maker_words.proofs.Letters.{behind_letter}
use Rattle.maker_words.proofs.maker.behind_a.Goals as goal

pub returns : goal.returns
returns c =
    behind_letter 65 c.args.word.now c.strip_prefix.result
    (strip_prefix_char 65 c.args.word.now c.strip_prefix.result c.strip_prefix.ensures.cases
    (omega arith))
