use Rattle.std.proofs.Common.{arith}
use Rattle.fragmenter.proofs.Cuts.{is_cut, pieces_fit, few_pieces}
use Rattle.fragmenter.proofs.Joins.{pieces-join, pieces-answer}
use Rattle.fragmenter.proofs.laws.pieces_join.Goals as goal

pub returns : goal.returns
returns c =
    let joins = pieces-join c.args.message.now c.args.piece (omega arith) (omega arith) in
    record {
      answers = joins.0;
      outside = joins.1;
      at_each = pieces-answer c.args.message.now c.args.piece (omega arith) (omega arith);
      cut = is_cut c.args.message.now c.args.piece (omega arith) (omega arith);
      fit = pieces_fit c.args.message.now c.args.piece (omega arith) (omega arith)
          c.requires.message;
      few = few_pieces c.args.message.now c.args.piece (omega arith) c.requires.message;
    }
