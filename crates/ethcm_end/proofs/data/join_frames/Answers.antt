use Rattle.std.proofs.Common.{◌∙◌, refl}
use Rattle.ethcm_end.proofs.Kept.{took_one, took_all, took_none}
use Rattle.ethcm_end.proofs.data.join_frames.Goals as goal

pub returns-in-None-clause-rx : goal.returns-in-None-clause-rx
returns-in-None-clause-rx c =
    (took_none _ _ _ _ _ c.expected.ensures.in_order c.joining.invariant.0 c.in-None.ensures refl
    c.in-More.is).rx

pub returns-in-None-clause-joiner : goal.returns-in-None-clause-joiner
returns-in-None-clause-joiner c =
    (took_none _ _ _ _ _ c.expected.ensures.in_order c.joining.invariant.0 c.in-None.ensures refl
    c.in-More.is).joiner

pub returns-in-None-clause-made : goal.returns-in-None-clause-made
returns-in-None-clause-made c =
    (took_none _ _ _ _ _ c.expected.ensures.in_order c.joining.invariant.0 c.in-None.ensures refl
    c.in-More.is).made

pub joining-preserved : goal.joining-preserved
joining-preserved c = (
  took_one _ _ _ _ _ c.expected.ensures.in_order c.joining.invariant.0 _ _ _ c.in-Some.ensures
      c.pass.ensures.is c.in_ok-made-in-Some.ensures.held c.in_ok-made-in-Some.ensures.answer
      c.in-More.is,
  (
    c.pass.ensures.was ∙ c.joining.invariant.1.0,
    c.add-in-Some.ensures.was ∙ c.joining.invariant.1.1,
  ),
)

pub returns : goal.returns
returns c =
    let t = took_all _ _ _ _ c.in_default.not-More c.joining.invariant.0 in
    record {
      rx = t.rx;
      joiner = t.joiner;
      made = t.made;
      rx_was = c.joining.invariant.1.0;
      joiner_was = c.joining.invariant.1.1;
    }
