use Rattle.std.proofs.Common.{◌≡◌, true}
use Rattle.fabric.specs.Machine.{have_ended}
use Rattle.fabric.proofs.fabric.Fabric.first_left.Given as goal

-- the actors so far have ended
abbrev pub invariant-loop-place : goal.invariant-loop-place
invariant-loop-place l = have_ended l.self.log.steps l.place ≡ true
