use Rattle.std.proofs.Common.{◌≡◌, ◌+◌, List, [], length, ap, ◌∙◌, sym, arith}
use Rattle.journal.specs.declared.effect.Step.{Step}
use Rattle.journal.specs.Histories.{first_steps}
use Rattle.journal.proofs.Positions.{first_steps_none, first_steps_done}
use Rattle.turn_lines.specs.Rows.{rows_of}
use Rattle.turn_lines.specs.Turns.{turn_makers}
use Rattle.turn_lines.proofs.MoreTurns.{few_turns, rows_next}
use Rattle.turn_lines.proofs.rows.rows_told.Goals as goal

pub loop-done-init : goal.loop-done-init
loop-done-init c =
    let S : List Step = c.args.journal.now.log.steps in
    let none : rows_of (turn_makers []) ≡ rows_of (turn_makers (first_steps 0 S)) =
    ap (λ (P : List Step). rows_of (turn_makers P)) (sym (first_steps_none S)) in
    cc

pub add_step-requires : goal.add_step-requires
add_step-requires c =
    omega (
      arith,
      few_turns (first_steps c.loop-done.done c.args.journal.now.log.steps) c.loop-done.rows.items
          c.loop-done.invariant,
      c.step_after-step.ensures.position,
    )

pub loop-done-preserved : goal.loop-done-preserved
loop-done-preserved c =
    let S : List Step = c.args.journal.now.log.steps in
    rows_next (first_steps c.loop-done.done S) (first_steps (c.loop-done.done + 1) S)
    c.step_after-step.result.now c.loop-done.rows.items c.add_step.new.rows.items
    c.step_after-step.ensures.next c.loop-done.invariant c.in_ok-add_step.ensures

pub returns : goal.returns
returns c =
    let S : List Step = c.args.journal.now.log.steps in
    let all : c.loop-done.done ≡ length S = omega arith in
    c.loop-done.invariant
    ∙ ap (λ (P : List Step). rows_of (turn_makers P)) (first_steps_done S c.loop-done.done all)
