use Rattle.std.proofs.Common.{◌≡◌, ℕ, ◌+◌, List, [], ◌∷◌, ◌++◌, length, take, arith}
use Rattle.std.proofs.lemmas.Grind.{common_steps}
use Rattle.journal.specs.declared.effect.Effect.{Effect}
use Rattle.chart.proofs.OneMore.{marks_grown}
use Rattle.chart.proofs.marks.put_effects.Goals as goal

pub loop-index-preserved : goal.loop-index-preserved
loop-index-preserved c = λ S known.
    let es : List Effect = c.args.effects.now in
    let i : ℕ = c.loop-index.index in
    let item : Effect = c.index-effects-index.result in
    let grown : take (i + 1) es ≡ take i es ++ item ∷ [] = grind (arith, common_steps) in
    let count : 1 + length (take i es) ≡ i + 1 = grind (arith, common_steps) in
    marks_grown S c.args.by c.args.position i (take (i + 1) es) (take i es) item c.effect_mark.result
    c.args.marks.now.items c.loop-index.marks.items c.push.new.self.items
    c.in_ok-push.ensures.items (c.effect_mark.ensures S known) (c.loop-index.invariant S known)
    grown count
