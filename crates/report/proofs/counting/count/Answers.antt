use Rattle.std.proofs.Common.{◌≡◌, List, length, ap, ◌∙◌, sym, arith}
use Rattle.journal.specs.declared.effect.Step.{Step}
use Rattle.journal.proofs.Positions.{first_steps_none, first_steps_done}
use Rattle.report.specs.Summary.{count_over}
use Rattle.report.proofs.counting.count.Goals as goal

pub loop-done-init : goal.loop-done-init
loop-done-init c = record {
  is =
      ap (λ (P : List Step). count_over c.args.counted P)
      (sym (first_steps_none c.args.journal.now.log.steps));
  few = omega arith;
}

pub returns : goal.returns
returns c =
    let S : List Step = c.args.journal.now.log.steps in
    let all : c.loop-done.done ≡ length S = omega arith in
    c.loop-done.invariant.is
    ∙ ap (λ (P : List Step). count_over c.args.counted P)
    (first_steps_done S c.loop-done.done all)
