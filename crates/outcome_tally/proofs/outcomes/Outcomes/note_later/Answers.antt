use Rattle.std.proofs.Common.{◌∙◌, ◌+◌, ◌<◌, ◌^◌, ℕ, List, ap, subst, sym}
use Rattle.outcome_tally.specs.OutcomeParts.{OutcomeParts}
use Rattle.outcome_tally.specs.Outcomes.{times_of, with_later}
use Rattle.outcome_tally.specs.Times.{and_later}
use Rattle.outcome_tally.specs.declared.times.Times.{Times}
use Rattle.outcome_tally.proofs.Kept.{with_kept_later}
use Rattle.outcome_tally.proofs.outcomes.Outcomes.note_later.Goals as goal

pub and-both-requires : goal.and-both-requires
and-both-requires c =
    subst (λ (t : Times). t.runs + c.args.times.runs < 2 ^ 63)
    (sym (c.times_of.ensures ∙ ap (times_of c.args.self.now) c.as_slice.ensures.value)) c.requires

pub returns : goal.returns
returns c =
    let T : List ℕ = c.args.text.items in
    let E = c.self.inside.times.entries in
    with_kept_later E c.insert.new.self.entries c.args.text c.args.times c.and-both.result
    c.in_ok-insert.ensures.entries
    (c.and-both.ensures
    ∙ ap (λ (t : Times). and_later t c.args.times)
    (c.times_of.ensures ∙ ap (times_of c.args.self.now) c.as_slice.ensures.value
    ∙ ap (λ (p : List OutcomeParts). times_of p T) (sym c.self.view_is)))
    ∙ ap (λ (p : List OutcomeParts). with_later p (record { text = T; times = c.args.times }))
    c.self.view_is
