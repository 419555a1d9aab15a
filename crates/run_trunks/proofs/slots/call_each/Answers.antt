use Rattle.std.proofs.Common.{◌<◌, ◌∙◌, sym, length, arith, true≢false}
use Rattle.trunk.specs.Calls.{HasNumbersFor, MayCall, SaysNothing, makes}
use Rattle.run_trunks.specs.States.{is_of}
use Rattle.run_trunks.proofs.Placed.{calls-more, granted-there, was_stays}
use Rattle.run_trunks.proofs.slots.call_each.Goals as goal

pub call_side_if-requires-clause-may : goal.call_side_if-requires-clause-may
call_side_if-requires-clause-may c at is =
    let there : c.loop-place.place < length c.loop-place.trunks = omega
    (arith, c.loop-place.auto.trunks, c.requires.same, c.loop-place-test.true) in
    granted-there c.args.links.now c.args.node.0 (makes c.args.call) (is_of c.args.trunks.now)
    c.loop-place.trunks c.loop-place.place c.index-trunks-place.result _ (MayCall c.args.call)
    c.loop-place.invariant.is c.loop-place-test.true there c.requires.may at
    (sym c.side_on.ensures ∙ is)

pub call_side_if-requires-clause-numbers : goal.call_side_if-requires-clause-numbers
call_side_if-requires-clause-numbers c at is =
    let there : c.loop-place.place < length c.loop-place.trunks = omega
    (arith, c.loop-place.auto.trunks, c.requires.same, c.loop-place-test.true) in
    granted-there c.args.links.now c.args.node.0 (makes c.args.call) (is_of c.args.trunks.now)
    c.loop-place.trunks c.loop-place.place c.index-trunks-place.result _ (HasNumbersFor c.args.call)
    c.loop-place.invariant.is c.loop-place-test.true there c.requires.numbers at
    (sym c.side_on.ensures ∙ is)

pub returns-in_err-call_side_if-clause-was : goal.returns-in_err-call_side_if-clause-was
returns-in_err-call_side_if-clause-was c =
    was_stays c.loop-place.trunks c.loop-place.place c.index-trunks-place.result
    c.call_side_if.new.trunk c.in_err-call_side_if.ensures.was
    ∙ c.loop-place.invariant.was

pub returns-in_err-call_side_if-clause-free : goal.returns-in_err-call_side_if-clause-free
returns-in_err-call_side_if-clause-free c silent =
    let there : c.loop-place.place < length c.loop-place.trunks = omega
    (arith, c.loop-place.auto.trunks, c.requires.same, c.loop-place-test.true) in
    absurd (true≢false (sym (c.in_err-call_side_if.ensures.free (λ at is.
    granted-there c.args.links.now c.args.node.0 (makes c.args.call) (is_of c.args.trunks.now)
    c.loop-place.trunks c.loop-place.place c.index-trunks-place.result _ (SaysNothing c.args.call)
    c.loop-place.invariant.is c.loop-place-test.true there silent at
    (sym c.side_on.ensures ∙ is)))))

pub loop-place-preserved : goal.loop-place-preserved
loop-place-preserved c =
    let there : c.loop-place.place < length c.loop-place.trunks = omega
    (arith, c.loop-place.auto.trunks, c.requires.same, c.loop-place-test.true) in
    record {
      is = calls-more c.args.links.now c.args.node.0 (makes c.args.call)
          (is_of c.args.trunks.now) c.loop-place.trunks c.loop-place.place
          c.index-trunks-place.result c.call_side_if.new.trunk _ c.side_on.result
          c.loop-place.invariant.is c.loop-place-test.true there c.side_on.ensures
          c.in_ok-call_side_if.ensures.is;
      was = was_stays c.loop-place.trunks c.loop-place.place c.index-trunks-place.result
          c.call_side_if.new.trunk c.in_ok-call_side_if.ensures.was
          ∙ c.loop-place.invariant.was;
    }
