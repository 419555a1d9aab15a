use Rattle.std.proofs.Common.{◌≡◌, true}
use Rattle.fabric.specs.Machine.{have_ended}
use Rattle.workers.proofs.rings.first_running.Given as goal

-- the actors passed so far have ended
abbrev pub invariant-loop-place : goal.invariant-loop-place
invariant-loop-place l = have_ended l.fabric.log.steps l.place ≡ true
