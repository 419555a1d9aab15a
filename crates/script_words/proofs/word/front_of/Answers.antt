use Rattle.std.proofs.Common.{length-take-le, sym, arith, take_all}
use Rattle.script_words.proofs.word.front_of.Goals as goal

pub slice_bounds-result-end : goal.slice_bounds-result-end
slice_bounds-result-end c =
    sym (length-take-le 64 c.args.word.now (omega (arith, c.if-word-gt-WORD_MOST.true)))

pub returns-then-word-gt-WORD_MOST-clause-few : goal.returns-then-word-gt-WORD_MOST-clause-few
returns-then-word-gt-WORD_MOST-clause-few c =
    let long = length-take-le 64 c.args.word.now (omega (arith, c.if-word-gt-WORD_MOST.true)) in
    omega (arith, long)

pub returns-else-word-gt-WORD_MOST-clause-front : goal.returns-else-word-gt-WORD_MOST-clause-front
returns-else-word-gt-WORD_MOST-clause-front c =
    sym (take_all 64 c.args.word.now (omega (arith, c.if-word-gt-WORD_MOST.false)))
