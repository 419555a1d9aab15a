use Rattle.std.proofs.Common.{◌∙◌, sym, ap, arith, ◌<◌, ◌-◌, slice_get}
use Rattle.journal.specs.Logs.{Book, step_at}
use Rattle.journal.proofs.Steps.{step_at-zero, step_at-reverse}
use Rattle.journal.proofs.journal.Journal.step.Goals as goal

pub returns-then-k-eq0 : goal.returns-then-k-eq0
returns-then-k-eq0 c = rw c.if-k-eq0.true (sym (step_at-zero c.args.self.now.log.steps))

pub returns : goal.returns
returns c =
    let positive : 0 < c.args.k = omega arith in
    c.nth_made.ensures ∙ ap (λ xs. slice_get xs (c.args.k - 1)) c.deref.ensures.value
    ∙ sym (step_at-reverse c.self.inside.steps.items c.args.k positive)
    ∙ ap (λ (book : Book). step_at book.log.steps c.args.k) c.self.view_is
