use Rattle.std.proofs.Common.{◌≡◌, take}
use Rattle.stage.specs.Seats.{unstarted}
use Rattle.stage.proofs.stage.players_of.Given as goal

-- the players so far are the actors so far
abbrev pub invariant-loop-actor : goal.invariant-loop-actor
invariant-loop-actor l = l.players.items ≡ unstarted (take l.actor-index l.actors)
