use Rattle.std.proofs.Common.{None, ◌-◌, ◌∙◌, ap, arith, refl, slice_set}
use Rattle.journal.specs.declared.event.Event.TheVariants as asks
use Rattle.journal.specs.declared.head.Head.TheVariants as heads
use Rattle.fabric.specs.Actings.{asking}
use Rattle.fabric.specs.Bringings.{IsThere}
use Rattle.fabric.specs.Run.{Layout}
use Rattle.fabric.specs.Standings.{waiting_no_more}
use Rattle.fabric.specs.declared.fabric.Fabric.TheView.{view}
use Rattle.fabric.proofs.Standings.Counting.{take-front}
use Rattle.fabric.proofs.Methods.StepsOnLinks.{IsMadeThere, made-there, parts_there}
use Rattle.fabric.proofs.Standings.KernelAndStanding.{at-value, back, may-seen, sees}
use Rattle.fabric.proofs.Methods.KernelAndLine.{above-there, kernel-there, line-room, node-at}
use Rattle.fabric.proofs.Methods.KernelAndLine.{numbers-there}
use Rattle.fabric.proofs.Methods.Ticks.{made-ticked}
use Rattle.fabric.proofs.fabric.Fabric.tick.Goals as goal
use Rattle.fabric.proofs.fabric.Fabric.tick.Goals.{After-wait_no_more}

pub overflow_sub-at : goal.overflow_sub-at
overflow_sub-at c =
    omega (
      arith,
      above-there (at-value c.self.invariant.0 c.self.view_is) c.args.link
          c.requires.asked.may.fits c.at-at.ensures,
    )

pub index_mut-requires : goal.index_mut-requires
index_mut-requires c =
    omega (
      arith,
      kernel-there (at-value c.self.invariant.0 c.self.view_is) c.args.link
          c.requires.asked.may.fits c.at-at.ensures,
    )

pub make_tick-made-requires-clause-node : goal.make_tick-made-requires-clause-node
make_tick-made-requires-clause-node c =
    node-at (at-value c.self.invariant.0 c.self.view_is) c.args.link c.requires.asked.may.fits
    c.at-at.ensures c.index_mut.result.now c.index_mut.ensures.value

pub make_tick-made-requires-clause-counted : goal.make_tick-made-requires-clause-counted
make_tick-made-requires-clause-counted c =
    (numbers-there (at-value c.self.invariant.0 c.self.view_is) c.args.link
    c.requires.asked.may.fits c.requires.asked.short c.at-at.ensures c.self.inside.trunks
    (ap (λ (v : Layout). v.trunks) c.self.view_is)).sessions

pub tick-requires : goal.tick-requires
tick-requires c =
    (line-room (at-value c.self.invariant.0 c.self.view_is) c.args.link c.requires.asked.may.fits
    c.requires.asked.short c.index_mut-in-Ok.result.now c.index_mut-in-Ok.ensures.value).2

-- what it makes
made : (c : After-wait_no_more) → IsMadeThere (view c.self.inside) c.args.self.now
    c.make_tick-made.new.journal.log c.make_tick-made.new.trunks
    (parts_there c.self.inside (slice_set c.self.inside.kernels.items
    (c.at-at.result.node.0 - 1) c.make_tick-made.new.kernel) c.args.link c.tick.new.self
    c.wait_no_more.new.standings) c.args.by (heads.Tick c.args.link c.args.side)
made c =
    let waiting = take-front c.wait_no_more.new.standings _ c.self.inside.standings.len
    (omega (arith, c.wait_no_more.auto.standings, c.deref_mut.ensures.len)) ∙ c.wait_no_more.ensures
    ∙ ap (waiting_no_more c.args.by) c.deref_mut.ensures.value in
    let seen = sees c.self.invariant.0 c.self.view_is in
    made-there c.self.view_is c.make_tick-made.new.journal.log c.make_tick-made.new.trunks _
    c.in-Ok.ensures.trunks _ c.args.by (heads.Tick c.args.link c.args.side)
    (made-ticked c.self.invariant.0 c.args.by c.args.link c.args.side
    (may-seen seen {by = c.args.by} {ask = asking (asks.Tick c.args.link c.args.side) None}
    c.requires.asked) c.at-at.result
    (back seen (λ (v : Layout). IsThere v c.args.link c.args.side c.at-at.result) c.at-at.ensures)
    c.self.inside.trunks refl c.index_mut.result.now c.make_tick-made.new.kernel
    c.index_mut.ensures.value c.in-Ok.ensures.kernel c.index_mut-in-Ok.result.now c.tick.new.self
    c.index_mut-in-Ok.ensures.value c.tick.ensures c.make_tick-made.new.journal.log
    c.in-Ok.ensures.log c.make_tick-made.new.trunks c.in-Ok.ensures.trunks) _ waiting

pub invariant_of-self : goal.invariant_of-self
invariant_of-self c = (made (goal.at.invariant_of-self c).After-wait_no_more).keeps

pub returns-in-Ok-clause-ok : goal.returns-in-Ok-clause-ok
returns-in-Ok-clause-ok c =
    (made (goal.at.returns-in-Ok-clause-ok c).After-wait_no_more).steps
