use Rattle.std.proofs.Common.{length, ap, ◌∙◌, arith}
use Rattle.keyed_list.proofs.Entries.{shorter}
use Rattle.linx_timers.specs.Entries.{at_slot, timers_in}
use Rattle.linx_timers.proofs.Calls.{others_of, others_stay, others_alone}
use Rattle.linx_timers.proofs.timers.Timers.drop_of.Goals as goal

pub loop-slot-smaller : goal.loop-slot-smaller
loop-slot-smaller c =
    let found = c.in-Some.ensures.found in
    let less = shorter (at_slot c.in-Some.slot) c.loop-slot.self-inside.entries found.entry
    found.at in
    omega (arith, less, ap length c.take.ensures.others)

pub loop-slot-smaller-in-Some : goal.loop-slot-smaller-in-Some
loop-slot-smaller-in-Some c =
    let found = c.in-Some.ensures.found in
    let less = shorter (at_slot c.in-Some.slot) c.loop-slot.self-inside.entries found.entry
    found.at in
    omega (arith, less, ap length c.take.ensures.others)

pub loop-slot-preserved : goal.loop-slot-preserved
loop-slot-preserved c =
    let found = c.in-Some.ensures.found in
    record {
      tied = c.take.ensures.tied c.loop-slot.self-inside.next c.loop-slot.invariant.tied;
      others = ap (others_of c.args.client)
          (c.take.ensures.times c.loop-slot.self-inside.next c.loop-slot.invariant.tied
          ∙ ap (timers_in c.loop-slot.self-inside.deadlines) c.take.ensures.others)
          ∙ others_stay c.loop-slot.self-inside.deadlines c.loop-slot.self-inside.entries
          c.args.client c.in-Some.slot found.entry found.at found.owner
          ∙ c.loop-slot.invariant.others;
    }

pub loop-slot-preserved-in-Some : goal.loop-slot-preserved-in-Some
loop-slot-preserved-in-Some c =
    let found = c.in-Some.ensures.found in
    record {
      tied = c.take.ensures.tied c.loop-slot.self-inside.next c.loop-slot.invariant.tied;
      others = ap (others_of c.args.client)
          (c.take.ensures.times c.loop-slot.self-inside.next c.loop-slot.invariant.tied
          ∙ ap (timers_in c.loop-slot.self-inside.deadlines) c.take.ensures.others)
          ∙ others_stay c.loop-slot.self-inside.deadlines c.loop-slot.self-inside.entries
          c.args.client c.in-Some.slot found.entry found.at found.owner
          ∙ c.loop-slot.invariant.others;
    }

pub invariant_of-self : goal.invariant_of-self
invariant_of-self c = c.loop-slot.invariant.tied

pub returns : goal.returns
returns c =
    others_alone c.loop-slot.self-inside.deadlines c.loop-slot.self-inside.entries c.args.client
    c.in_default.ensures.none
    ∙ c.loop-slot.invariant.others
