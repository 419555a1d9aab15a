use Rattle.std.proofs.Common.{◌+◌, None, length, refl}
use Rattle.journal.specs.declared.by.By.TheVariants.{Pump}
use Rattle.fabric.specs.Actings.{asking}
use Rattle.linx_api.proofs.Calls.{gives-added}
use Rattle.thread_cases.proofs.link_side.step.Goals as goal

pub returns-clause-added : goal.returns-clause-added
returns-clause-added g c =
    gives-added c.args.shared.now.run c.step-answer.new.self.run c.step-answer.ensures.fixed
    (Pump (record { 0 = 1 })) (length c.args.shared.now.run.shape.actors + 1)
    (asking c.next_event-event.result None) c.step-answer.result refl
    c.step-answer.ensures.answered.gives
