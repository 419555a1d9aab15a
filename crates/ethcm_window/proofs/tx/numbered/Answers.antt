use Rattle.std.proofs.Common.{◌∙◌, sym, refl, arith}
use Rattle.ethcm_window.proofs.Numbering.{no_frames, numbered_more}
use Rattle.ethcm_window.proofs.tx.numbered.Goals as goal

pub loop-k-init : goal.loop-k-init
loop-k-init c = c.in_ok-sent.ensures.items ∙ sym (no_frames _ _ refl)

pub loop-k-preserved : goal.loop-k-preserved
loop-k-preserved c =
    let more = numbered_more c.args.number c.args.place c.loop-k.k c.args.frames.now.items
    c.index.result.now (omega arith) c.index.ensures in
    rw (c.in_ok-push.ensures.items, c.in_ok-copy.ensures, c.loop-k.invariant) (sym more)
