use Rattle.std.proofs.Common.{◌∙◌, Some, sym, ap, subst}
use Rattle.journal.specs.declared.effect.Step.{Step}
use Rattle.turn_lock.specs.Passes.{PassView}
use Rattle.linx_api.specs.Sharing.{Shared}
use Rattle.linx_api.specs.Telling.{PlanParts, story_of}
use Rattle.workers.specs.Working.{IsWorking}
use Rattle.workers.proofs.Resting.{having_seen, working-still}
use Rattle.workers.proofs.worker.note_no_memory.Goals as goal

pub returns-clause-working : goal.returns-clause-working
returns-clause-working g c =
    let x = c.take-held.result.state.run in
    let same = ap (λ (s : Shared). s.run) c.stop.ensures
    ∙ ap (λ (s : Shared). s.run) c.state.ensures.value in
    let after = c.give.ensures.pass
    ∙ ap (λ (p : PassView Step PlanParts).
    let q : PassView Step PlanParts = record p { front = story_of c.stop.new.self.run } in q)
    c.take-held.ensures.turn in
    subst (λ (q : PassView Step PlanParts). IsWorking c.args.script.now q (Some c.args.player.now))
    (sym (after ∙ ap (having_seen c.args.pass) same))
    (working-still c.args.script.now c.args.pass (Some c.args.player.now) c.requires.working x
    c.take-held.ensures.fixed c.take-held.ensures.rests)
