use Rattle.std.proofs.Common.{None, ◌∙◌, ap}
use Rattle.journal.specs.Logs.{Log}
use Rattle.journal.specs.declared.event.Event.TheVariants as asks
use Rattle.node_kernel.specs.declared.answers.StepAnswer.TheVariants as answers
use Rattle.fabric.proofs.Standings.MakerAfterStep.{as_waiting}
use Rattle.fabric.proofs.Standings.KernelAndStanding.{acting-home, makes-seen, sees}
use Rattle.fabric.specs.Actings.{asking}
use Rattle.fabric.proofs.Standings.Idling.{waits-idle}
use Rattle.fabric.proofs.Methods.QuietSteps.{lay_still, made-wait}
use Rattle.fabric.proofs.fabric.Fabric.wait.Goals as goal

pub invariant_of-self : goal.invariant_of-self
invariant_of-self c =
    let seen = sees c.self.invariant.0 c.self.view_is in
    let acts = acting-home seen c.args.actor c.requires.asked.may.maker
    c.requires.asked.room c.requires.asked.short in
    let owns = rw (← c.self.view_is) at c.requires.granted in
    let vain = rw (← c.self.view_is) at c.requires.vain in
    let busy = rw (← c.self.view_is) at c.requires.busy in
    let first = rw (← c.self.view_is) at c.requires.first in (
      (made-wait acts c.args.filter owns vain busy first c.index_mut.result.now c.wait.new.self
          c.index_mut.ensures.value
          (c.wait.ensures ∙ ap (as_waiting c.index_mut.result.now) c.in-Ok.ensures.filter)
          c.make_wait.new.journal.log c.in-Ok.ensures.log).0,
      c.self.invariant.1,
    )

pub returns-in-Ok-clause-ok : goal.returns-in-Ok-clause-ok
returns-in-Ok-clause-ok c =
    let seen = sees c.self.invariant.0 c.self.view_is in
    let acts = acting-home seen c.args.actor c.requires.asked.may.maker
    c.requires.asked.room c.requires.asked.short in
    let owns = rw (← c.self.view_is) at c.requires.granted in
    let vain = rw (← c.self.view_is) at c.requires.vain in
    let busy = rw (← c.self.view_is) at c.requires.busy in
    let first = rw (← c.self.view_is) at c.requires.first in
    makes-seen seen (lay_still acts c.make_wait.new.journal.log) c.args.actor
    (asking (asks.Look c.args.filter) None) answers.NotYet
    (made-wait acts c.args.filter owns vain busy first c.index_mut.result.now c.wait.new.self
    c.index_mut.ensures.value
    (c.wait.ensures ∙ ap (as_waiting c.index_mut.result.now) c.in-Ok.ensures.filter)
    c.make_wait.new.journal.log c.in-Ok.ensures.log).1

pub returns-in-Ok-clause-idle : goal.returns-in-Ok-clause-idle
returns-in-Ok-clause-idle c =
    let owns = rw (← c.self.view_is) at c.requires.granted in
    let vain = rw (← c.self.view_is) at c.requires.vain in
    waits-idle c.self.inside.journal.log.steps c.args.actor c.args.filter owns vain
    c.make_wait.new.journal.log.steps (ap (λ (l : Log). l.steps) c.in-Ok.ensures.log)
