use Rattle.std.proofs.Common.{◌≡◌, List, Some, length, refl, subst, slice_get}
use Rattle.std.proofs.lemmas.Option.{slice_get_read}
use Rattle.journal.specs.declared.effect.Effect.{Effect}
use Rattle.journal_text.proofs.Fitting.{fits_effect}
use Rattle.journal_text.proofs.effects.write_effects.Goals as goal

pub of_effect-known-requires : goal.of_effect-known-requires
of_effect-known-requires c =
    let effects : List Effect = c.as_slice-effect-items.result.now in
    fits_effect c.args.digests.now c.args.position c.args.step.now c.loop-index.index
    c.effect-item.result
    (subst (λ (es : List Effect). slice_get es c.loop-index.index ≡ Some c.effect-item.result)
    c.as_slice-effect-items.ensures
    (slice_get_read effects (length effects) c.loop-index.index c.effect-item.result refl
    c.loop-index-test.true c.effect-item.is))
    c.requires
