use Rattle.std.proofs.Common.{None}
use Rattle.journal.specs.declared.event.Event.TheVariants as asks
use Rattle.node_kernel.specs.declared.answers.StepAnswer.TheVariants as answers
use Rattle.fabric.proofs.Standings.KernelAndStanding.{acting-home, endpoint-seen, makes-seen, sees}
use Rattle.fabric.specs.Actings.{asking}
use Rattle.fabric.proofs.Methods.QuietSteps.{lay_still, made-end_closed}
use Rattle.fabric.proofs.fabric.Fabric.end_closed.Goals as goal

pub invariant_of-self : goal.invariant_of-self
invariant_of-self c =
    let seen = sees c.self.invariant.0 c.self.view_is in
    let acts = acting-home seen c.args.actor c.requires.asked.may.maker
    c.requires.asked.room c.requires.asked.short in
    let mine = endpoint-seen seen c.args.actor _ c.requires.granted in (
      (made-end_closed acts mine c.index_mut.result.now c.end.new.self c.index_mut.ensures.value
          c.end.ensures c.make_quiet.new.journal.log c.in-Ok.ensures.log).0,
      c.self.invariant.1,
    )

pub returns-in-Ok-clause-ok : goal.returns-in-Ok-clause-ok
returns-in-Ok-clause-ok c =
    let seen = sees c.self.invariant.0 c.self.view_is in
    let acts = acting-home seen c.args.actor c.requires.asked.may.maker
    c.requires.asked.room c.requires.asked.short in
    let mine = endpoint-seen seen c.args.actor _ c.requires.granted in
    makes-seen seen (lay_still acts c.make_quiet.new.journal.log) c.args.actor
    (asking asks.End None) answers.Done
    (made-end_closed acts mine c.index_mut.result.now c.end.new.self c.index_mut.ensures.value
    c.end.ensures c.make_quiet.new.journal.log c.in-Ok.ensures.log).1
