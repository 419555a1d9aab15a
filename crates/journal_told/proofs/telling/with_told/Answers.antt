use Rattle.std.proofs.Common.{◌≡◌, length, arith, ◌∙◌, ap, subst}
use Rattle.link_laws.specs.Laws.{IsLegal}
use Rattle.reading_laws.specs.Printed.{shown_of}
use Rattle.image_laws.specs.Told.{told_of}
use Rattle.journal_told.proofs.Attached.{all_first}
use Rattle.journal_told.proofs.telling.with_told.Goals as goal

pub returns-clause-noticed : goal.returns-clause-noticed
returns-clause-noticed c = λ shape legal.
    let all : c.loop-done.done ≡ length c.args.journal.now.log.steps = omega arith in
    let told : c.loop-done.told.log.steps ≡ told_of shown_of c.args.journal.now.log.steps =
    c.loop-done.invariant.steps
    ∙ ap (told_of shown_of) (all_first c.args.journal.now.log.steps c.loop-done.done all)
    in
    c.accepted_are_noticed.ensures shown_of shape c.args.journal.now.log.steps
    (subst (IsLegal shape) told legal)
