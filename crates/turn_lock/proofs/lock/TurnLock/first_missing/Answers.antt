use Rattle.std.proofs.Common.{◌+◌}
use Rattle.turn_lock.proofs.Passes.{numbered_more}
use Rattle.turn_lock.proofs.lock.TurnLock.first_missing.Goals as goal

pub loop-index-preserved : goal.loop-index-preserved
loop-index-preserved g c = numbered_more _ (c.loop-index.index + 1) c.loop-index.invariant
    (c.has_number.ensures.0 c.if-not-has_number.false)
