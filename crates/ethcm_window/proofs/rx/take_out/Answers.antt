use Rattle.std.proofs.Common.{◌∙◌, sym}
use Rattle.ethcm_window.proofs.Storing.{without_last}
use Rattle.ethcm_window.proofs.rx.take_out.Goals as goal

pub loop-place-preserved : goal.loop-place-preserved
loop-place-preserved c =
    let last = without_last c.pop.new.self.items c.in-Some.place c.loop-place.kept.items in
    rw c.remove_at.ensures (sym last ∙ (rw c.in-Some.ensures.items at c.loop-place.invariant))
