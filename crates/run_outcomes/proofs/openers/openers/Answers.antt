use Rattle.std.proofs.Common.{◌≡◌, ◌+◌, List, [], length, ap, ◌∙◌, sym, arith}
use Rattle.journal.specs.declared.effect.Step.{Step}
use Rattle.journal.specs.Histories.{first_steps}
use Rattle.journal.proofs.Positions.{first_steps_none, first_steps_done}
use Rattle.run_outcomes.specs.Openers.{openers}
use Rattle.run_outcomes.proofs.Steps.{openers_more}
use Rattle.run_outcomes.proofs.openers.openers.Goals as goal

pub loop-done-init : goal.loop-done-init
loop-done-init c =
    let S : List Step = c.args.journal.now.log.steps in
    let none : openers [] ≡ openers (first_steps 0 S) =
    ap (λ (P : List Step). openers P) (sym (first_steps_none S)) in
    cc

pub loop-done-preserved : goal.loop-done-preserved
loop-done-preserved c =
    let S : List Step = c.args.journal.now.log.steps in
    openers_more (first_steps c.loop-done.done S) (first_steps (c.loop-done.done + 1) S)
    c.step_after-step.result.now c.loop-done.table.items c.note.new.table.items
    c.step_after-step.ensures.next c.loop-done.invariant c.in_ok-note.ensures

pub returns : goal.returns
returns c =
    let S : List Step = c.args.journal.now.log.steps in
    let all : c.loop-done.done ≡ length S = omega arith in
    c.loop-done.invariant
    ∙ ap (λ (P : List Step). openers P) (first_steps_done S c.loop-done.done all)
