use Rattle.std.proofs.Common.{◌≡◌, ◌+◌, ◌-◌, length, ap, ◌∙◌, subst, arith, length-drop}
use Rattle.linx_outside.proofs.Told.{behind, Appends-rest, rest-drop}
use Rattle.linx_outside.proofs.whole_writes.write_all.Goals as goal

pub pieces-preserved : goal.pieces-preserved
pieces-preserved g c =
    let before = c.pieces.invariant in
    let told = c.in-Took.ensures in
    let bytes = c.args.bytes.now in
    let done = c.pieces.done in
    let count = c.in-Took.count in
    let size : length (behind bytes done) ≡ length bytes - done =
    ap length (rest-drop bytes done) ∙ length-drop done bytes
    in
    record {
      within = omega (arith, told.within);
      taken = Appends-rest _ _ _ bytes done count before.taken told.taken;
      untouched = λ none. absurd (omega (arith, none));
      counts = told.took_counts_nothing ∙ before.counts;
      takes = λ room can enough.
          let left : room - done - count ≡ room - (done + count) = omega arith in
          subst (g.K.Sink.can_take c.write.new.self) left
          (told.takes (room - done) (before.takes room can enough) (omega arith));
    }
