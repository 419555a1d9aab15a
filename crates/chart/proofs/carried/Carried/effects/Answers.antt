use Rattle.std.proofs.Common.{◌≡◌, ℕ, ◌+◌, List, ◌∷◌, drop, arith}
use Rattle.std.proofs.lemmas.Grind.{common_steps}
use Rattle.journal.specs.declared.effect.Effect.{Effect}
use Rattle.chart.specs.Carried.{with_effects}
use Rattle.chart.proofs.OneMore.{one_effect_more}
use Rattle.chart.proofs.carried.Carried.effects.Goals as goal

pub loop-index-preserved : goal.loop-index-preserved
loop-index-preserved c = λ S known.
    let es : List Effect = c.args.effects.now in
    let i : ℕ = c.loop-index.index in
    let item : Effect = c.index-effects-index.result in
    let split : drop i es ≡ item ∷ drop (i + 1) es = grind (arith, common_steps) in
    one_effect_more S c.args.position (i + 1) item (drop (i + 1) es) (drop i es)
    c.loop-index.self c.effect.new.self (with_effects S c.args.position 1 es c.args.self.now)
    (c.in_ok-effect.ensures S known) split (c.loop-index.invariant S known)
