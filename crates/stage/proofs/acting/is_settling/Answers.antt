use Rattle.std.proofs.Common.{◌≡◌, ℕ, Some, None, sym, ◌∙◌, ap, subst, length, option_copied}
use Rattle.journal.specs.Logs.{Log, step_at}
use Rattle.journal.specs.declared.effect.Step.{Step}
use Rattle.stage.proofs.Settling.Settlers.{last-tells, none-tells}
use Rattle.stage.proofs.acting.is_settling.Goals as goal

pub returns-in-Some : goal.returns-in-Some
returns-in-Some c =
    let journal = c.journal-journal.result.now.log in
    let s : Step = c.in-Some.step.now in
    let at : step_at journal.steps (length journal.steps) ≡ Some s =
    subst (λ (n : ℕ). step_at journal.steps n ≡ Some s) c.len.ensures
    (sym c.step.ensures ∙ ap option_copied c.in-Some.is) in
    c.is_under_way.ensures
    ∙ sym (last-tells c.args.fabric.now s
    (subst (λ (g : Log). step_at g.steps (length g.steps) ≡ Some s) c.journal-journal.ensures.log
    at))

pub returns-in-None : goal.returns-in-None
returns-in-None c =
    let journal = c.journal-journal.result.now.log in
    let at : step_at journal.steps (length journal.steps) ≡ None =
    subst (λ (n : ℕ). step_at journal.steps n ≡ None) c.len.ensures
    (sym c.step.ensures ∙ ap option_copied c.in-None.is) in
    sym (none-tells c.args.fabric.now
    (subst (λ (g : Log). step_at g.steps (length g.steps) ≡ None) c.journal-journal.ensures.log
    at))
