use Rattle.std.proofs.Common.{◌≡◌, ◌+◌, Bool, List, Some, take, cond, sym, ap, ◌∙◌, arith, nat_eq}
use Rattle.std.proofs.Common.{Option, ◌||◌}
use Rattle.std.specs.List.{list_any}
use Rattle.std.specs.HashMap.{get}
use Rattle.std.proofs.lemmas.Grind.{common_steps}
use Rattle.std.proofs.lemmas.List.Folds.{list_any-append}
use Rattle.journal.specs.declared.by.By.{By}
use Rattle.journal.specs.declared.effect.Effect.{Effect}
use Rattle.journal.specs.History.{opens}
use Rattle.chart.proofs.OneMore.{later_or_earlier}
use Rattle.chart.proofs.openers.note_openings.Goals as goal

pub loop-effect-preserved : goal.loop-effect-preserved
loop-effect-preserved c = λ q.
    let p : Effect → Bool = opens (record { 0 = q }) in
    let item : Effect = c.effect-item.result in
    let by : Option By = Some c.args.by in
    let old : Option By = get nat_eq c.args.openers.now q in
    let so_far : List Effect = take c.loop-effect.effect-index c.args.effects.now in
    let grown : list_any p (take (c.loop-effect.effect-index + 1) c.args.effects.now)
    ≡ (list_any p so_far || p item) =
    grind (arith, common_steps, list_any-append) in
    c.in_ok-note_opening.ensures q
    ∙ ap (λ (m : Option By). cond (p item) by m) (c.loop-effect.invariant q)
    ∙ later_or_earlier (list_any p so_far) (p item) by old
    ∙ ap (λ (b : Bool). cond b by old) (sym grown)
