use Rattle.std.proofs.Common.{None, ◌∙◌, ap, arith}
use Rattle.journal.specs.declared.event.Event.TheVariants as asks
use Rattle.journal.specs.declared.head.Head.TheVariants as heads
use Rattle.run_trunks.specs.States.{TrunksState}
use Rattle.fabric.specs.Actings.{asking}
use Rattle.fabric.specs.Standings.{waiting_no_more}
use Rattle.fabric.specs.declared.fabric.Fabric.TheView.{view}
use Rattle.fabric.proofs.Standings.Counting.{take-front}
use Rattle.fabric.proofs.Methods.StepsOnLinks.{IsMadeThere, made-there, parts_there}
use Rattle.fabric.proofs.Methods.Packets.{made-passed}
use Rattle.fabric.proofs.Standings.KernelAndStanding.{at-value, may-seen, sees}
use Rattle.fabric.proofs.Methods.KernelAndLine.{line-room}
use Rattle.fabric.proofs.fabric.Fabric.pass.Goals as goal
use Rattle.fabric.proofs.fabric.Fabric.pass.Goals.{After-wait_no_more}

pub count-requires-clause-first : goal.count-requires-clause-first
count-requires-clause-first c =
    (line-room (at-value c.self.invariant.0 c.self.view_is) c.args.link
    c.requires.asked.may.fits.of_shape c.requires.asked.short c.index_mut.result.now
    c.index_mut.ensures.value).0

pub count-requires-clause-second : goal.count-requires-clause-second
count-requires-clause-second c =
    (line-room (at-value c.self.invariant.0 c.self.view_is) c.args.link
    c.requires.asked.may.fits.of_shape c.requires.asked.short c.index_mut.result.now
    c.index_mut.ensures.value).1

-- what it makes
made : (c : After-wait_no_more) → IsMadeThere (view c.self.inside) c.args.self.now
    c.make_quiet.new.journal.log c.pass_by.new.trunks
    (parts_there c.self.inside c.self.inside.kernels.items c.args.link c.count.new.self
    c.wait_no_more.new.standings) c.args.by (heads.Wire c.args.link c.args.from c.args.verdict)
made c =
    let waiting = take-front c.wait_no_more.new.standings _ c.self.inside.standings.len
    (omega (arith, c.wait_no_more.auto.standings, c.deref_mut.ensures.len)) ∙ c.wait_no_more.ensures
    ∙ ap (waiting_no_more c.args.by) c.deref_mut.ensures.value in
    made-there c.self.view_is c.make_quiet.new.journal.log c.pass_by.new.trunks _ c.pass_by.ensures
    _ c.args.by (heads.Wire c.args.link c.args.from c.args.verdict)
    (made-passed c.self.invariant.0 c.args.by c.args.link c.args.from c.args.verdict
    (may-seen (sees c.self.invariant.0 c.self.view_is) {by = c.args.by}
    {ask = asking (asks.Wire c.args.link c.args.from c.args.verdict) None} c.requires.asked)
    c.requires.passes c.index_mut.result.now c.count.new.self c.index_mut.ensures.value
    c.count.ensures c.make_quiet.new.journal.log c.in-Ok.ensures.log c.pass_by.new.trunks.is
    (ap (λ (s : TrunksState). s.is) c.pass_by.ensures)) _ waiting

pub invariant_of-self : goal.invariant_of-self
invariant_of-self c = (made (goal.at.invariant_of-self c).After-wait_no_more).keeps

pub returns-in-Ok-clause-ok : goal.returns-in-Ok-clause-ok
returns-in-Ok-clause-ok c =
    (made (goal.at.returns-in-Ok-clause-ok c).After-wait_no_more).steps
