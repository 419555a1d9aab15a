use Rattle.std.proofs.Common.{◌≡◌, ◌∙◌, refl, arith}
use Rattle.fragmenter.specs.Pieces.{pieces_of}
use Rattle.fragmenter.proofs.Cuts.{begun_pieces, more_pieces, all_pieces, is_cut, pieces_fit}
use Rattle.fragmenter.proofs.Cuts.{few_pieces}
use Rattle.fragmenter.proofs.cutting.pieces.Goals as goal

pub cutting-init : goal.cutting-init
cutting-init c = record {
  within = omega (arith, c.min-from.ensures, c.len-size.ensures);
  frames =
      rw (c.in_ok-push.ensures.items, c.len-size.ensures)
      (begun_pieces c.args.message.now c.args.piece c.min-from.result _ _ _
      (record {
        to_is = omega (arith, c.min-from.ensures, c.len-size.ensures);
        more_is = refl;
        payload_is = c.in_ok-part.ensures;
      })
      c.in_ok-frames.ensures.items (omega arith) (omega arith));
}

pub cutting-preserved : goal.cutting-preserved
cutting-preserved c = record {
  within = omega (arith, c.min-to.ensures, c.len-size.ensures);
  frames =
      rw (c.in_ok-push-2.ensures.items, c.len-size.ensures)
      (more_pieces c.args.piece c.cutting.from c.min-to.result c.args.message.now.body _ _ _ _
      (record {
        to_is = rw (← c.len-size.ensures) c.min-to.ensures;
        more_is = refl;
        payload_is = c.in_ok-part-2.ensures;
      })
      c.cutting.invariant.frames (omega (arith, c.len-size.ensures)) (omega arith));
}

pub returns : goal.returns
returns c =
    let made : c.of.result ≡ pieces_of c.args.message.now c.args.piece =
    c.of.ensures ∙ all_pieces c.args.piece c.cutting.from c.args.message.now.body _ _
    c.cutting.invariant.frames (grind (arith, c.len-size.ensures))
    in
    record {
      pieces = made;
      cut = rw made (is_cut c.args.message.now c.args.piece (omega arith) (omega arith));
      fit = rw made (pieces_fit c.args.message.now c.args.piece (omega arith) (omega arith)
          c.requires.message);
      few = rw made (few_pieces c.args.message.now c.args.piece (omega arith) c.requires.message);
    }
