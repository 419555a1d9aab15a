use Rattle.std.proofs.Common.{◌≡◌, ◌∙◌, ℕ, List, length, ap, sym, arith}
use Rattle.journal.specs.declared.effect.Step.{Step}
use Rattle.journal.specs.Histories.{first_steps}
use Rattle.journal.proofs.Positions.{first_steps_none, first_steps_done}
use Rattle.text_replay.specs.Front.{told_front, told_with}
use Rattle.text_replay.proofs.front.told_front.Goals as goal

pub loop-done-init : goal.loop-done-init
loop-done-init c =
    c.new-front.ensures.items
    ∙ sym (ap (told_front c.args.script.now) (first_steps_none c.args.told.now.log.steps))

pub loop-done-preserved : goal.loop-done-preserved
loop-done-preserved c =
    c.in_ok-add_turn.ensures
    ∙ ap (λ (front : List ℕ). told_with c.args.script.now front c.step_after.result.now) c.loop-done.invariant
    ∙ sym (ap (told_front c.args.script.now) c.step_after.ensures.next)

pub returns : goal.returns
returns c =
    let S : List Step = c.args.told.now.log.steps in
    let all : c.loop-done.done ≡ length S = omega arith in
    c.loop-done.invariant
    ∙ ap (told_front c.args.script.now) (first_steps_done S c.loop-done.done all)
