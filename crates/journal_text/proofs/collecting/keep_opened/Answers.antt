use Rattle.std.proofs.Common.{◌≡◌, ℕ, ◌+◌, Bool, List, take, cond, sym, ap, ◌∙◌, arith, nat_eq}
use Rattle.std.proofs.Common.{Option, ◌||◌}
use Rattle.std.specs.List.{list_any}
use Rattle.std.specs.HashMap.{get}
use Rattle.std.proofs.lemmas.Grind.{common_steps}
use Rattle.std.proofs.lemmas.List.Folds.{list_any-append}
use Rattle.journal.specs.declared.effect.Effect.{Effect}
use Rattle.journal.specs.History.{opens, name_in}
use Rattle.journal_text.proofs.Choices.{cond-or}
use Rattle.journal_text.proofs.collecting.keep_opened.Goals as goal

pub loop-effect-preserved : goal.loop-effect-preserved
loop-effect-preserved c = λ q.
    let p : Effect → Bool = opens (record { 0 = q }) in
    let item : Effect = c.effect-item.result in
    let name : Option (List ℕ) = name_in c.args.head.now in
    let old : Option (List ℕ) = get nat_eq c.args.opened.now q in
    let so_far : List Effect = take c.loop-effect.effect-index c.args.effects.now in
    let grown : list_any p (take (c.loop-effect.effect-index + 1) c.args.effects.now)
    ≡ (list_any p so_far || p item) =
    grind (arith, common_steps, list_any-append) in
    c.in_ok-keep_if_opened.ensures q
    ∙ ap (λ (m : Option (List ℕ)). cond (p item) name m) (c.loop-effect.invariant q)
    ∙ cond-or (list_any p so_far) (p item) name old
    ∙ ap (λ (b : Bool). cond b name old) (sym grown)
