use Rattle.std.proofs.Common.{◌≡◌, true}
use Rattle.fabric.specs.Machine.{all_leave_at_rest}
use Rattle.fabric.proofs.fabric.Fabric.all_leave_at_rest.Given as goal

-- the actors so far leave this one at rest
abbrev pub invariant-loop-place : goal.invariant-loop-place
invariant-loop-place l = all_leave_at_rest l.self.log.steps l.actor l.place ≡ true
