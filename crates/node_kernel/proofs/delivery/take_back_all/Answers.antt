use Rattle.std.proofs.Common.{◌≡◌, ◌∙◌, ◌+◌, ◌-◌, ◌<◌, length, map, take, sym, ap, arith}
use Rattle.node_kernel.specs.Nodes.{put_all}
use Rattle.node_kernel.specs.Kept.{bring_into}
use Rattle.node_kernel.proofs.Bringing.{put_more, put_none}
use Rattle.node_kernel.proofs.Keeping.{rising_alike}
use Rattle.node_kernel.proofs.delivery.take_back_all.Goals as goal

pub loop-left-preserved : goal.loop-left-preserved
loop-left-preserved c =
    let left = c.loop-left.left in
    let effects = c.args.effects.now in
    let one = c.index-effects-left.result in
    let within : left - 1 < length effects = omega (arith, c.loop-left.invariant.within) in
    let n : left - 1 + 1 ≡ left = omega arith in
    record {
      within = omega (arith, c.loop-left.invariant.within);
      rising = rising_alike c.take_back.new.endpoints c.loop-left.endpoints c.take_back.ensures.same
          c.loop-left.invariant.rising;
      same = c.take_back.ensures.same ∙ c.loop-left.invariant.same;
      back = λ step before is.
          c.take_back.ensures.back (record { step = step; place = left - 1 + 1 })
          (put_all step (take (left - 1) effects) before)
          (c.loop-left.invariant.back step before is
          ∙ ap (λ m. put_all step (take m effects) before) (sym n)
          ∙ sym (put_more step (left - 1) effects one within before)
          ∙ ap (λ e. map (bring_into (record { step = step; place = left - 1 + 1 }) e)
          (put_all step (take (left - 1) effects) before)) (sym c.index-effects-left.is));
    }

pub returns-clause-back : goal.returns-clause-back
returns-clause-back c = λ step before is.
    let none : c.loop-left.left ≡ 0 = omega arith in
    c.loop-left.invariant.back step before is
    ∙ ap (λ m. put_all step (take m c.args.effects.now) before) none ∙ put_none step before
