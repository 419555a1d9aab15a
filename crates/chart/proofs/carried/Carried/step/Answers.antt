use Rattle.std.proofs.Common.{◌∷◌}
use Rattle.std.proofs.lemmas.Result.{on_ok_weaker}
use Rattle.chart.proofs.OneMore.{over_step}
use Rattle.chart.proofs.carried.Carried.step.Goals as goal

pub returns : goal.returns
returns c = λ P at known.
    on_ok_weaker c.effects.result
    (over_step c.args.step.now P c.args.position c.as_slice.result.now c.args.self.now
    c.head.new.self c.effects.new.self at c.in_ok-head.ensures c.as_slice.ensures)
    (c.effects.ensures (c.args.step.now ∷ P) known)
