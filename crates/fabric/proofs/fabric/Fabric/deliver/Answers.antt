use Rattle.std.proofs.Common.{None, ◌-◌, ◌∙◌, ap, arith, refl, slice_set}
use Rattle.linx_base.specs.Sides.{other_of}
use Rattle.journal.specs.declared.event.Event.TheVariants as asks
use Rattle.journal.specs.declared.head.Head.TheVariants as heads
use Rattle.fabric.specs.Actings.{asking}
use Rattle.fabric.specs.Bringings.{IsThere}
use Rattle.fabric.specs.Run.{Layout}
use Rattle.fabric.specs.Standings.{waiting_no_more}
use Rattle.fabric.specs.declared.fabric.Fabric.TheView.{view}
use Rattle.fabric.proofs.Standings.Counting.{take-front}
use Rattle.fabric.proofs.Methods.StepsOnLinks.{IsMadeThere, made-there, parts_there}
use Rattle.fabric.proofs.Methods.Packets.{made-delivered, may-deliver}
use Rattle.fabric.proofs.Standings.KernelAndStanding.{at-value, back, may-seen, sees}
use Rattle.fabric.proofs.Methods.KernelAndLine.{above-there, kernel-there, line-room, node-at}
use Rattle.fabric.proofs.Methods.KernelAndLine.{numbers-there}
use Rattle.fabric.proofs.fabric.Fabric.deliver.Goals as goal
use Rattle.fabric.proofs.fabric.Fabric.deliver.Goals.{After-wait_no_more}

pub overflow_sub-at : goal.overflow_sub-at
overflow_sub-at c =
    let kept = at-value c.self.invariant.0 c.self.view_is in
    omega (
      arith,
      above-there kept c.args.link c.requires.asked.may.fits.of_shape
          (rw c.other.ensures at c.at-at.ensures),
    )

pub index_mut-requires : goal.index_mut-requires
index_mut-requires c =
    let kept = at-value c.self.invariant.0 c.self.view_is in
    omega (
      arith,
      kernel-there kept c.args.link c.requires.asked.may.fits.of_shape
          (rw c.other.ensures at c.at-at.ensures),
    )

pub make_delivery-made-requires-clause-node : goal.make_delivery-made-requires-clause-node
make_delivery-made-requires-clause-node c =
    node-at (at-value c.self.invariant.0 c.self.view_is) c.args.link
    c.requires.asked.may.fits.of_shape (rw c.other.ensures at c.at-at.ensures)
    c.index_mut.result.now c.index_mut.ensures.value

pub make_delivery-made-requires-clause-may : goal.make_delivery-made-requires-clause-may
make_delivery-made-requires-clause-may c =
    may-deliver (at-value c.self.invariant.0 c.self.view_is) c.args.by c.args.link c.args.from
    c.args.verdict c.requires.asked c.args.keep c.requires.comes c.at-at.result
    (rw c.other.ensures at c.at-at.ensures) c.self.inside.trunks
    (ap (λ (v : Layout). v.trunks) c.self.view_is) c.index_mut.result.now c.index_mut.ensures.value

pub make_delivery-made-requires-clause-counted : goal.make_delivery-made-requires-clause-counted
make_delivery-made-requires-clause-counted c =
    (numbers-there (at-value c.self.invariant.0 c.self.view_is) c.args.link
    c.requires.asked.may.fits.of_shape c.requires.asked.short
    (rw c.other.ensures at c.at-at.ensures) c.self.inside.trunks
    (ap (λ (v : Layout). v.trunks) c.self.view_is)).sessions

pub make_delivery-made-requires-clause-numbers : goal.make_delivery-made-requires-clause-numbers
make_delivery-made-requires-clause-numbers c =
    (numbers-there (at-value c.self.invariant.0 c.self.view_is) c.args.link
    c.requires.asked.may.fits.of_shape c.requires.asked.short
    (rw c.other.ensures at c.at-at.ensures) c.self.inside.trunks
    (ap (λ (v : Layout). v.trunks) c.self.view_is)).frames

pub count-requires-clause-first : goal.count-requires-clause-first
count-requires-clause-first c =
    (line-room (at-value c.self.invariant.0 c.self.view_is) c.args.link
    c.requires.asked.may.fits.of_shape c.requires.asked.short c.index_mut-in-Ok.result.now
    c.index_mut-in-Ok.ensures.value).0

pub count-requires-clause-second : goal.count-requires-clause-second
count-requires-clause-second c =
    (line-room (at-value c.self.invariant.0 c.self.view_is) c.args.link
    c.requires.asked.may.fits.of_shape c.requires.asked.short c.index_mut-in-Ok.result.now
    c.index_mut-in-Ok.ensures.value).1

-- what it makes
made : (c : After-wait_no_more) → IsMadeThere (view c.self.inside) c.args.self.now
    c.make_delivery-made.new.journal.log c.make_delivery-made.new.trunks
    (parts_there c.self.inside (slice_set c.self.inside.kernels.items
    (c.at-at.result.node.0 - 1) c.make_delivery-made.new.kernel) c.args.link c.count.new.self
    c.wait_no_more.new.standings) c.args.by
    (heads.Wire c.args.link c.args.from c.args.verdict)
made c =
    let waiting = take-front c.wait_no_more.new.standings _ c.self.inside.standings.len
    (omega (arith, c.wait_no_more.auto.standings, c.deref_mut.ensures.len)) ∙ c.wait_no_more.ensures
    ∙ ap (waiting_no_more c.args.by) c.deref_mut.ensures.value in
    let seen = sees c.self.invariant.0 c.self.view_is in
    made-there c.self.view_is c.make_delivery-made.new.journal.log c.make_delivery-made.new.trunks _
    c.in-Ok.ensures.made.trunks_are _ c.args.by (heads.Wire c.args.link c.args.from c.args.verdict)
    (made-delivered c.self.invariant.0 c.args.by c.args.link c.args.from c.args.verdict
    (may-seen seen {by = c.args.by}
    {ask = asking (asks.Wire c.args.link c.args.from c.args.verdict) None} c.requires.asked)
    c.args.keep c.requires.comes c.at-at.result
    (back seen (λ (v : Layout). IsThere v c.args.link (other_of c.args.from) c.at-at.result)
    (rw c.other.ensures at c.at-at.ensures)) c.self.inside.trunks refl c.index_mut.result.now
    c.index_mut.ensures.value c.make_delivery-made.new.kernel c.index_mut-in-Ok.result.now
    c.count.new.self c.index_mut-in-Ok.ensures.value c.count.ensures
    c.make_delivery-made.new.journal.log c.make_delivery-made.new.trunks c.in-Ok.ensures.made)
    _ waiting

pub invariant_of-self : goal.invariant_of-self
invariant_of-self c = (made (goal.at.invariant_of-self c).After-wait_no_more).keeps

pub returns-in-Ok-clause-ok : goal.returns-in-Ok-clause-ok
returns-in-Ok-clause-ok c =
    (made (goal.at.returns-in-Ok-clause-ok c).After-wait_no_more).steps
