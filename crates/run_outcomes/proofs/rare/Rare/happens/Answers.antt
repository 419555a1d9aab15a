use Rattle.std.proofs.Common.{◌≡◌, ◌+◌, ◌||◌, Bool, List, length, ap, ◌∙◌, sym, arith}
use Rattle.journal.specs.declared.effect.Step.{Step}
use Rattle.journal.specs.Histories.{first_steps}
use Rattle.journal.proofs.Positions.{first_steps_none, first_steps_done}
use Rattle.run_outcomes.specs.Rare.{happens}
use Rattle.run_outcomes.proofs.Steps.{happens_more}
use Rattle.run_outcomes.proofs.rare.Rare.happens.Goals as goal

pub loop-done-init : goal.loop-done-init
loop-done-init c =
    ap (λ (P : List Step). happens c.args.self P)
    (sym (first_steps_none c.args.journal.now.log.steps))

pub loop-done-preserved : goal.loop-done-preserved
loop-done-preserved c =
    let S : List Step = c.args.journal.now.log.steps in
    happens_more c.args.self (first_steps c.loop-done.done S)
    (first_steps (c.loop-done.done + 1) S) c.step_after-step.result.now c.loop-done.found
    c.either-found.result c.step_after-step.ensures.next c.loop-done.invariant
    (c.either-found.ensures
    ∙ ap (λ (b : Bool). b || c.loop-done.found) c.is_in_step.ensures)

pub returns : goal.returns
returns c =
    let S : List Step = c.args.journal.now.log.steps in
    let all : c.loop-done.done ≡ length S = omega arith in
    c.loop-done.invariant
    ∙ ap (λ (P : List Step). happens c.args.self P) (first_steps_done S c.loop-done.done all)
