use Rattle.std.proofs.Common.{None}
use Rattle.link_laws.specs.Ends.{IsLinkOf}
use Rattle.node_kernel.specs.declared.answers.StepAnswer.TheVariants as answers
use Rattle.fabric.specs.Actings.{asking}
use Rattle.fabric.specs.Lines.{event_of_mark}
use Rattle.fabric.specs.Run.{Layout}
use Rattle.fabric.proofs.Methods.Marks.{made-marked, mark-fits}
use Rattle.fabric.proofs.Standings.KernelAndStanding.{acting-home, back, makes-seen, sees}
use Rattle.fabric.proofs.fabric.Fabric.mark.Goals as goal

pub invariant_of-self : goal.invariant_of-self
invariant_of-self c =
    let seen = sees c.self.invariant.0 c.self.view_is in
    let acts = acting-home seen c.args.actor c.requires.asked.may.maker
    c.requires.asked.room c.requires.asked.short in
    let of_shape = back seen (λ (v : Layout). IsLinkOf v.shape c.args.link)
    (mark-fits c.args.self.now _ _ c.args.mark c.args.link c.requires.asked.may.fits) in (
      (made-marked acts c.args.link of_shape c.args.mark c.index_mut.result.now c.mark.new.self
          c.index_mut.ensures.value c.mark.ensures c.index_mut-in-Ok.result.now c.wait.new.self
          c.index_mut-in-Ok.ensures.value c.wait.ensures c.make_quiet.new.journal.log
          (rw c.head.ensures at c.in-Ok.ensures.log)).0,
      c.self.invariant.1,
    )

pub returns-in-Ok-clause-ok : goal.returns-in-Ok-clause-ok
returns-in-Ok-clause-ok c =
    let seen = sees c.self.invariant.0 c.self.view_is in
    let acts = acting-home seen c.args.actor c.requires.asked.may.maker
    c.requires.asked.room c.requires.asked.short in
    let of_shape = back seen (λ (v : Layout). IsLinkOf v.shape c.args.link)
    (mark-fits c.args.self.now _ _ c.args.mark c.args.link c.requires.asked.may.fits) in
    makes-seen seen _ c.args.actor (asking (event_of_mark c.args.mark c.args.link) None)
    answers.Done
    (made-marked acts c.args.link of_shape c.args.mark c.index_mut.result.now c.mark.new.self
    c.index_mut.ensures.value c.mark.ensures c.index_mut-in-Ok.result.now c.wait.new.self
    c.index_mut-in-Ok.ensures.value c.wait.ensures c.make_quiet.new.journal.log
    (rw c.head.ensures at c.in-Ok.ensures.log)).1
