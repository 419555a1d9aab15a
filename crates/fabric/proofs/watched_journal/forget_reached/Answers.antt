use Rattle.std.proofs.Common.{sym, ◌∙◌, ◌++◌, ◌∷◌, [], ap, ℕ, List, map, take}
use Rattle.std.proofs.lemmas.List.{take_more}
use Rattle.journal.specs.declared.effect.Effect.{Effect}
use Rattle.fabric.specs.Idle.{unless_reached}
use Rattle.fabric.proofs.Standings.Idling.{one_more, unreached}
use Rattle.fabric.proofs.watched_journal.forget_reached.Goals as goal

pub loop-effect-init : goal.loop-effect-init
loop-effect-init c = unreached c.args.idle.now

pub loop-effect-preserved : goal.loop-effect-preserved
loop-effect-preserved c =
    let es : List Effect = c.args.effects.now in
    let k : ℕ = c.loop-effect.effect-index in
    let e : Effect = c.effect-item.result in
    c.forget_by.ensures ∙ ap (map (unless_reached (e ∷ []))) c.loop-effect.invariant
    ∙ one_more (take k es) e c.args.idle.now
    ∙ ap (λ (x : Effect). map (unless_reached (take k es ++ x ∷ [])) c.args.idle.now)
    c.effect-item.is
    ∙ ap (λ (xs : List Effect). map (unless_reached xs) c.args.idle.now)
    (sym (take_more es k e c.loop-effect-test.true))
