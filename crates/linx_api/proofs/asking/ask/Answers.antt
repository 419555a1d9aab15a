use Rattle.std.proofs.Common.{◌∙◌, ap}
use Rattle.journal.specs.declared.effect.Step.{Step}
use Rattle.fabric.specs.Actings.{asking}
use Rattle.turn_lock.specs.Passes.{PassView}
use Rattle.linx_api.specs.Telling.{PlanParts}
use Rattle.linx_api.proofs.Calls.{can-ask, given-added, is-asked}
use Rattle.linx_api.proofs.asking.ask.Goals as goal

pub step-answer-requires : goal.step-answer-requires
step-answer-requires g c =
    let number = c.number-number.ensures
    ∙ ap (λ (p : PassView Step PlanParts). p.number) c.take-held.ensures.turn in
    record {
      asked = rw (c.state.ensures.value, number)
          (can-ask c.args.pass c.take-held.result.turn c.take-held.result.state.run
          (asking c.args.event c.args.hand) c.take-held.ensures.turn c.take-held.ensures.own
          c.take-held.ensures.fixed c.requires.asks);
    }

pub give-requires-clause-added : goal.give-requires-clause-added
give-requires-clause-added g c =
    let number = c.number-number.ensures
    ∙ ap (λ (p : PassView Step PlanParts). p.number) c.take-held.ensures.turn in
    let answered = rw (c.state.ensures.value, number) at c.step-answer.ensures.answered in
    let only = rw c.state.ensures.value at c.step-answer.ensures.fixed in
    given-added c.args.pass c.take-held.result.turn c.take-held.result.state.run
    c.step-answer.new.self.run (asking c.args.event c.args.hand) c.step-answer.result
    c.take-held.ensures.turn c.take-held.ensures.fixed only answered.gives

pub returns : goal.returns
returns g c =
    let number = c.number-number.ensures
    ∙ ap (λ (p : PassView Step PlanParts). p.number) c.take-held.ensures.turn in
    let answered = rw (c.state.ensures.value, number) at c.step-answer.ensures.answered in
    let only = rw c.state.ensures.value at c.step-answer.ensures.fixed in
    let found = rw c.state.ensures.value at c.step-answer.ensures.found in
    is-asked c.args.pass c.take-held.result.turn c.take-held.result.state.run
    c.step-answer.new.self.run (asking c.args.event c.args.hand) c.step-answer.result
    c.take-held.ensures.turn c.take-held.ensures.fixed only c.give.result
    c.take-held.ensures.rests c.take-held.ensures.own found c.step-answer.ensures.left answered
    c.give.ensures.pass c.give.ensures.own
