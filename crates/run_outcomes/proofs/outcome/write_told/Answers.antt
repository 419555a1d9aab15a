use Rattle.std.proofs.Common.{◌≡◌, ◌+◌, ◌++◌, List, length, ap, ◌∙◌, arith}
use Rattle.journal.specs.declared.effect.Step.{Step}
use Rattle.journal.specs.Histories.{first_steps}
use Rattle.journal.proofs.Positions.{first_steps_done}
use Rattle.run_outcomes.specs.Outcomes.{told}
use Rattle.run_outcomes.proofs.Steps.{told_more, told_none}
use Rattle.run_outcomes.proofs.outcome.write_told.Goals as goal

pub loop-done-init : goal.loop-done-init
loop-done-init c =
    told_none c.args.table.now c.args.journal.now.log.steps c.args.actor c.args.out.now.items

pub loop-done-preserved : goal.loop-done-preserved
loop-done-preserved c =
    let S : List Step = c.args.journal.now.log.steps in
    told_more c.args.table.now S c.args.actor (first_steps c.loop-done.done S)
    (first_steps (c.loop-done.done + 1) S) c.step_after-step.result.now c.args.out.now.items
    c.loop-done.out.items c.write_told_by.new.out.items c.step_after-step.ensures.next
    c.loop-done.invariant c.in_ok-write_told_by.ensures

pub returns : goal.returns
returns c =
    let S : List Step = c.args.journal.now.log.steps in
    let all : c.loop-done.done ≡ length S = omega arith in
    c.loop-done.invariant
    ∙ ap (λ (P : List Step). c.args.out.now.items ++ told c.args.table.now S c.args.actor P)
    (first_steps_done S c.loop-done.done all)
