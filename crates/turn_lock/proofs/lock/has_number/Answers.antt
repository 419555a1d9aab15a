use Rattle.std.proofs.Common.{◌<◌, ◌≢◌, length, get_or, sym, ◌∙◌, below_more}
use Rattle.turn_lock.specs.Passes.{numbers}
use Rattle.turn_lock.proofs.Passes.{number_at, none_numbered}
use Rattle.turn_lock.proofs.lock.has_number.Goals as goal

pub returns : goal.returns
returns g c = none_numbered c.args.passes.now c.loop-pass.pass-index c.args.number
    c.loop-pass-test.false c.loop-pass.invariant

pub loop-pass-preserved : goal.loop-pass-preserved
loop-pass-preserved g c =
    let passes = c.args.passes.now in
    let n = c.args.number in
    let there : c.loop-pass.pass-index < length passes = c.loop-pass-test.true in
    let is = number_at passes c.loop-pass.pass-index n c.pass-item.result there c.pass-item.is in
    below_more (λ k. get_or (numbers passes) k n ≢ n) _ c.loop-pass.invariant
    (λ e. c.if-number.false (c.number.ensures ∙ (sym is ∙ e)))
