use Rattle.std.proofs.Common.{◌≡◌, sym, subst, ◌∙◌}
use Rattle.linx_timers.specs.Entries.{timers_in, IsTied}
use Rattle.keyed_list.proofs.Entries.{without_none_first}
use Rattle.linx_timers.proofs.Tying.{taken_tied, taken_times}
use Rattle.linx_timers.proofs.timers.take.Goals as goal

pub returns-in_err-entry-clause-tied : goal.returns-in_err-entry-clause-tied
returns-in_err-entry-clause-tied c = λ next tied.
    let is = c.in_err-entry.ensures.others ∙ without_none_first _ _
    (sym c.in_err-entry.ensures.first) in
    subst (IsTied next c.args.deadlines.now) (sym is) tied

pub returns-clause-tied : goal.returns-clause-tied
returns-clause-tied c = λ next tied.
    subst (IsTied next c.remove.new.self) (sym c.in_ok-entry.ensures.others)
    (taken_tied next c.args.deadlines.now c.args.entries.now tied _ c.in_ok-entry.entry
    (sym c.in_ok-entry.ensures.first) c.remove.new.self c.remove.ensures)

pub returns-clause-times : goal.returns-clause-times
returns-clause-times c = λ next tied.
    subst (λ es. timers_in c.remove.new.self es ≡ timers_in c.args.deadlines.now es)
    (sym c.in_ok-entry.ensures.others)
    (taken_times next c.args.deadlines.now c.args.entries.now tied _ c.in_ok-entry.entry
    (sym c.in_ok-entry.ensures.first) c.remove.new.self c.remove.ensures)
