use Rattle.std.proofs.Common.{arith}
use Rattle.std.proofs.lemmas.Str.Pattern.{strip_prefix_char}
use Rattle.maker_words.proofs.Letters.{behind_letter}
use Rattle.maker_words.proofs.maker.behind_p.Goals as goal

pub returns : goal.returns
returns c =
    behind_letter 80 c.args.word.now c.strip_prefix.result
    (strip_prefix_char 80 c.args.word.now c.strip_prefix.result c.strip_prefix.ensures.cases
    (omega arith))
