use Rattle.std.proofs.Common.{◌≡◌, ◌+◌, ◌++◌, List, length, ap, ◌∙◌, arith}
use Rattle.journal.specs.declared.effect.Step.{Step}
use Rattle.linx_base.specs.declared.name.Names.{Names}
use Rattle.journal.specs.Histories.{first_steps}
use Rattle.journal_text.specs.Steps.{step_text}
use Rattle.journal_text.specs.Known.{digest_by}
use Rattle.journal_text.specs.Text.{steps_text}
use Rattle.journal.proofs.Positions.{first_steps_done}
use Rattle.journal_text.proofs.StepLines.{steps_text_none, steps_text_more}
use Rattle.journal_text.proofs.Fitting.{fits_next}
use Rattle.journal_text.proofs.whole_text.write_steps.Goals as goal

pub loop-done-init : goal.loop-done-init
loop-done-init c =
    steps_text_none (digest_by c.args.digests.now.by) c.args.journal.now.log.names c.args.journal.now.log.steps c.args.out.now.items

pub loop-done-preserved : goal.loop-done-preserved
loop-done-preserved c =
    let digest = digest_by c.args.digests.now.by in
    let S : List Step = c.args.journal.now.log.steps in
    steps_text_more digest c.args.journal.now.log.names (first_steps c.loop-done.done S)
    (first_steps (c.loop-done.done + 1) S)
    c.step_after-step.result.now c.loop-done.done c.args.out.now.items c.loop-done.out.items
    c.write_lines.new.out.items c.step_after-step.ensures.next c.step_after-step.ensures.position
    c.loop-done.invariant
    (c.in_ok-write_lines.ensures
    ∙ ap (λ (names : Names). c.loop-done.out.items
    ++ step_text digest names (c.loop-done.done + 1) c.step_after-step.result.now)
    c.names.ensures)

pub returns : goal.returns
returns c =
    let names : Names = c.args.journal.now.log.names in
    let S : List Step = c.args.journal.now.log.steps in
    let all : c.loop-done.done ≡ length S = omega arith in
    c.loop-done.invariant
    ∙ ap (λ (P : List Step). c.args.out.now.items
    ++ steps_text (digest_by c.args.digests.now.by) names P)
    (first_steps_done S c.loop-done.done all)

pub write_lines-requires : goal.write_lines-requires
write_lines-requires c =
    fits_next c.args.digests.now c.args.journal.now.log.steps c.loop-done.done
    c.step_after-step.result.now c.step_after-step.ensures.next c.step_after-step.ensures.position
    c.requires
