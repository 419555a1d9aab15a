use Rattle.std.proofs.Common.{◌≡◌, ◌∙◌, true, None, sym, ap, subst}
use Rattle.journal.specs.declared.effect.Step.{Step}
use Rattle.journal.specs.Logs.{is_full}
use Rattle.turn_lock.specs.Passes.{PassView}
use Rattle.linx_api.specs.Telling.{PlanParts}
use Rattle.workers.specs.Working.{seen}
use Rattle.workers.proofs.Giving.{pump-finished, pumped-gives, pumped-knows}
use Rattle.stage.proofs.Plans.OneState.{one_state}
use Rattle.workers.proofs.Resting.{found-shape, given-back, seen-all}
use Rattle.workers.proofs.worker.pump_in_turn.Goals as goal

pub give-pass-requires-clause-added : goal.give-pass-requires-clause-added
give-pass-requires-clause-added g c =
    let found = c.take-held.result.state.run in
    let left = c.take_pump_turn-turned.new.shared.run in
    let number = c.number-number.ensures
    ∙ ap (λ (p : PassView Step PlanParts). p.number) c.take-held.ensures.turn in
    let came = rw (c.state.ensures.value, number)
    at c.take_pump_turn-turned.ensures.came in
    let fixed = rw c.state.ensures.value
    at c.take_pump_turn-turned.ensures.fixed in
    pumped-gives c.args.script.now c.args.pass c.take-held.result.turn found left
    c.take-held.ensures.turn
    (found-shape c.args.script.now c.args.pass None c.requires.working found
    c.take-held.ensures.fixed c.take-held.ensures.rests)
    c.requires.working.played fixed came

pub returns-clause-working : goal.returns-clause-working
returns-clause-working g c =
    let found = c.take-held.result.state.run in
    let left = c.take_pump_turn-turned.new.shared.run in
    let here = c.take_pump_turn-turned.ensures in
    let number = c.number-number.ensures
    ∙ ap (λ (p : PassView Step PlanParts). p.number) c.take-held.ensures.turn in
    let came = rw (c.state.ensures.value, number) at here.came in
    pumped-knows c.args.script.now
    (one_state c.runs_reach_one_state.ensures c.args.script.now c.actors.ensures.script)
    c.args.pass c.give-pass.result c.requires.working found left
    (record {
      plan = c.take-held.ensures.fixed;
      rests = c.take-held.ensures.rests;
      reached = rw c.state.ensures.value at here.reached;
      calm = rw c.state.ensures.value at here.calm;
      fixed = rw c.state.ensures.value at here.fixed;
      same = given-back c.args.pass c.take-held.result.turn c.give-pass.result found left
          c.take-held.ensures.turn c.give-pass.ensures.pass;
    })
    came

pub returns-clause-done : goal.returns-clause-done
returns-clause-done g c done =
    let found = c.take-held.result.state.run in
    let left = c.take_pump_turn-turned.new.shared.run in
    let here = c.take_pump_turn-turned.ensures in
    let number = c.number-number.ensures
    ∙ ap (λ (p : PassView Step PlanParts). p.number) c.take-held.ensures.turn in
    let its = rw (c.state.ensures.value, number) at here.done done in
    pump-finished c.args.script.now
    (one_state c.runs_reach_one_state.ensures c.args.script.now c.actors.ensures.script)
    c.args.pass c.give-pass.result c.requires.working found left
    (record {
      plan = c.take-held.ensures.fixed;
      rests = c.take-held.ensures.rests;
      reached = rw c.state.ensures.value at here.reached;
      calm = rw c.state.ensures.value at here.calm;
      fixed = rw c.state.ensures.value at here.fixed;
      same = given-back c.args.pass c.take-held.result.turn c.give-pass.result found left
          c.take-held.ensures.turn c.give-pass.ensures.pass;
    })
    its

pub returns-clause-full : goal.returns-clause-full
returns-clause-full g c met =
    let found = c.take-held.result.state.run in
    let left = c.take_pump_turn-turned.new.shared.run in
    let after = given-back c.args.pass c.take-held.result.turn c.give-pass.result found left
    c.take-held.ensures.turn c.give-pass.ensures.pass in
    subst (λ (q : PassView Step PlanParts). is_full (seen q) ≡ true) (sym after)
    (ap is_full (seen-all c.args.pass left) ∙ c.take_pump_turn-turned.ensures.full met)
