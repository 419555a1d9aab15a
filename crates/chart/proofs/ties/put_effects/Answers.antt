use Rattle.std.proofs.Common.{◌≡◌, ℕ, ◌+◌, List, [], ◌∷◌, ◌++◌, length, take, arith}
use Rattle.std.proofs.lemmas.Grind.{common_steps}
use Rattle.journal.specs.declared.effect.Effect.{Effect}
use Rattle.chart.proofs.OneMore.{ties_grown}
use Rattle.chart.proofs.ties.put_effects.Goals as goal

pub loop-index-preserved : goal.loop-index-preserved
loop-index-preserved c =
    let es : List Effect = c.args.effects.now in
    let i : ℕ = c.loop-index.index in
    let item : Effect = c.index-effects-index.result in
    let grown : take (i + 1) es ≡ take i es ++ item ∷ [] = grind (arith, common_steps) in
    let count : 1 + length (take i es) ≡ i + 1 = grind (arith, common_steps) in
    ties_grown c.args.position i c.args.head.now (take (i + 1) es) (take i es) item
    c.args.ties.now.items c.loop-index.ties.items c.put_effect.new.ties.items
    c.in_ok-put_effect.ensures c.loop-index.invariant grown count
