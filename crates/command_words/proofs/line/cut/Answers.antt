use Rattle.std.proofs.Common.{sym, arith, length-take-le, take_all}
use Rattle.command_words.proofs.line.cut.Goals as goal

pub slice_bounds-result-end : goal.slice_bounds-result-end
slice_bounds-result-end c = sym (length-take-le 64 c.args.bytes.now (omega arith))

pub returns-then-bytes-le-SHOWN_MOST-clause-cut : goal.returns-then-bytes-le-SHOWN_MOST-clause-cut
returns-then-bytes-le-SHOWN_MOST-clause-cut c = sym (take_all 64 c.args.bytes.now (omega arith))

pub returns-else-bytes-le-SHOWN_MOST-clause-few : goal.returns-else-bytes-le-SHOWN_MOST-clause-few
returns-else-bytes-le-SHOWN_MOST-clause-few c =
    omega (arith, length-take-le 64 c.args.bytes.now (omega arith))
