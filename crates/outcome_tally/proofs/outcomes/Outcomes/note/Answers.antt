use Rattle.std.proofs.Common.{◌≡◌, ◌∙◌, ◌<◌, ◌^◌, ℕ, List, ap, subst, sym}
use Rattle.outcome_tally.specs.OutcomeParts.{OutcomeParts}
use Rattle.outcome_tally.specs.Outcomes.{times_of, with_outcome}
use Rattle.outcome_tally.specs.Times.{once_more}
use Rattle.outcome_tally.specs.declared.times.Times.{Times}
use Rattle.outcome_tally.proofs.Kept.{times_few, with_kept}
use Rattle.outcome_tally.proofs.outcomes.Outcomes.note.Goals as goal

pub once_more-times-requires : goal.once_more-times-requires
once_more-times-requires c =
    let P : List OutcomeParts = c.args.self.now in
    subst (λ (t : Times). t.runs < 2 ^ 63)
    (sym (c.times_of.ensures ∙ ap (times_of P) c.as_slice.ensures.value))
    (times_few P c.args.text.items c.requires)

pub returns : goal.returns
returns c =
    let T : List ℕ = c.args.text.items in
    let E = c.self.inside.times.entries in
    with_kept E c.insert.new.self.entries c.args.text c.args.seed c.once_more-times.result
    c.in_ok-insert.ensures.entries
    (c.once_more-times.ensures
    ∙ ap (λ (t : Times). once_more t c.args.seed)
    (c.times_of.ensures ∙ ap (times_of c.args.self.now) c.as_slice.ensures.value
    ∙ ap (λ (p : List OutcomeParts). times_of p T) (sym c.self.view_is)))
    ∙ ap (λ (p : List OutcomeParts). with_outcome p T c.args.seed) c.self.view_is
