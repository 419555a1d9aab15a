use Rattle.std.proofs.Common.{◌≡◌, List, length, sym, subst, arith}
use Rattle.journal.specs.declared.effect.Step.{Step}
use Rattle.linx_base.specs.declared.name.Names.{Names}
use Rattle.journal_text.specs.Owners.{Tracks}
use Rattle.journal_text.specs.Collected.{Collects}
use Rattle.journal.proofs.Positions.{first_steps_none, first_steps_done}
use Rattle.journal_text.proofs.Fitting.{fits_next}
use Rattle.journal_text.proofs.all_logs.collect.Goals as goal

pub loop-done-init : goal.loop-done-init
loop-done-init c =
    let names : Names = c.args.journal.now.log.names in
    let S : List Step = c.args.journal.now.log.steps in (
      subst (λ (P : List Step). Tracks P c.new-owners.result) (sym (first_steps_none S))
          c.new-owners.ensures,
      subst (λ (P : List Step). Collects names S P c.new-logs.result) (sym (first_steps_none S))
          (c.new-logs.ensures.collects names S),
      c.new-logs.ensures.by,
    )

pub returns-clause-collects : goal.returns-clause-collects
returns-clause-collects c =
    let names : Names = c.args.journal.now.log.names in
    let S : List Step = c.args.journal.now.log.steps in
    let all : c.loop-done.done ≡ length S = omega arith in
    subst (λ (P : List Step). Collects names S P c.loop-done.logs)
    (first_steps_done S c.loop-done.done all)
    c.loop-done.invariant.1

pub note-requires-clause-fits_step : goal.note-requires-clause-fits_step
note-requires-clause-fits_step c =
    fits_next c.args.digests.now c.args.journal.now.log.steps c.loop-done.done
    c.step_after-step.result.now c.step_after-step.ensures.next c.step_after-step.ensures.position
    c.requires
