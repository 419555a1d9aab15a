use Rattle.stage.proofs.Settling.StepsLeft.{steps_left}
use Rattle.stage.proofs.Settling.SixTicks.{IsUnderWay}
use Rattle.stage.proofs.Settling.FewerLeft.{way_at}
use Rattle.stage.proofs.acting.settle.Given as goal

-- the settling is under way
abbrev pub invariant-steps : goal.invariant-steps
invariant-steps l = IsUnderWay l.by l.link l.initial.fabric l.fabric l.ticks

-- the steps that are left of its way
abbrev pub decreases-steps : goal.decreases-steps
decreases-steps l = steps_left l.by l.initial.fabric.shape l.link (way_at l.link l.fabric l.ticks)
