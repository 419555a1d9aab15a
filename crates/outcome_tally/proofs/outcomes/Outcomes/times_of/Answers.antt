use Rattle.std.proofs.Common.{◌∙◌, List, Option, ap, unwrap_or}
use Rattle.outcome_tally.specs.OutcomeParts.{OutcomeParts}
use Rattle.outcome_tally.specs.Outcomes.{times_of}
use Rattle.outcome_tally.specs.Times.{never}
use Rattle.outcome_tally.specs.declared.times.Times.{Times}
use Rattle.outcome_tally.proofs.Kept.{times_found}
use Rattle.outcome_tally.proofs.outcomes.Outcomes.times_of.Goals as goal

pub returns-in-Some : goal.returns-in-Some
returns-in-Some c =
    ap (λ (o : Option Times). unwrap_or o never) c.in-Some.ensures.value
    ∙ times_found c.self.inside.times.entries c.args.text.now
    ∙ ap (λ (p : List OutcomeParts). times_of p c.args.text.now) c.self.view_is

pub returns-in-None : goal.returns-in-None
returns-in-None c =
    c.never.ensures
    ∙ ap (λ (o : Option Times). unwrap_or o never) c.in-None.ensures.value
    ∙ times_found c.self.inside.times.entries c.args.text.now
    ∙ ap (λ (p : List OutcomeParts). times_of p c.args.text.now) c.self.view_is
