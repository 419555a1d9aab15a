use Rattle.std.proofs.Common.{◌≡◌, take}
use Rattle.script_lang.specs.Fits.{command_count}
use Rattle.orders.proofs.seeds.command_count.Given as goal

-- the commands of the actors so far
abbrev pub invariant-loop-actor : goal.invariant-loop-actor
invariant-loop-actor l = l.all ≡ command_count (take l.actor-index l.actors)
