use Rattle.std.proofs.Common.{◌∙◌, ap}
use Rattle.journal.specs.declared.effect.Step.{Step}
use Rattle.turn_lock.specs.Passes.{PassView}
use Rattle.linx_api.specs.Telling.{PlanParts, story_of}
use Rattle.workers.proofs.Playing.{found-asks}
use Rattle.workers.proofs.Turning.{added-acted}
use Rattle.workers.proofs.worker.act_in_turn.Goals as goal

pub take_turn-turn-requires-clause-asks : goal.take_turn-turn-requires-clause-asks
take_turn-turn-requires-clause-asks g c =
    let number = c.number-actor.ensures
    ∙ ap (λ (p : PassView Step PlanParts). p.number) c.take-held.ensures.turn in
    rw (c.state.ensures.value, number)
    (found-asks c.args.script.now c.requires.script c.args.pass c.args.ask c.requires.asks
    c.take-held.result.state.run c.take-held.ensures.fixed c.take-held.ensures.rests)

pub give-requires-clause-added : goal.give-requires-clause-added
give-requires-clause-added g c =
    let number = c.number-actor.ensures
    ∙ ap (λ (p : PassView Step PlanParts). p.number) c.take-held.ensures.turn in
    let came = rw (c.state.ensures.value, number)
    at c.take_turn-turn.ensures.came in
    rw c.take-held.ensures.turn
    (added-acted c.take-held.result.state.run c.take_turn-turn.new.shared.run c.args.pass.number
    c.args.ask c.take_turn-turn.result.acted came)

pub returns : goal.returns
returns g c =
    let number = c.number-actor.ensures
    ∙ ap (λ (p : PassView Step PlanParts). p.number) c.take-held.ensures.turn in
    let left = c.take_turn-turn.new.shared.run in
    let here = c.take_turn-turn.ensures in
    record {
      found = c.take-held.result.state.run;
      left = left;
      turn = record {
        plan = c.take-held.ensures.fixed;
        rests = c.take-held.ensures.rests;
        reached = rw c.state.ensures.value at here.reached;
        calm = rw c.state.ensures.value at here.calm;
        fixed = rw c.state.ensures.value at here.fixed;
        same = c.give.ensures.pass
            ∙ ap (λ (p : PassView Step PlanParts).
            let q : PassView Step PlanParts = record p { front = story_of left } in q)
            c.take-held.ensures.turn;
      };
      came = rw (c.state.ensures.value, number) at here.came;
      over = rw number at here.over;
    }
