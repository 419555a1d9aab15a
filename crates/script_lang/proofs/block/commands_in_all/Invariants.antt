use Rattle.std.proofs.Common.{◌≡◌, take}
use Rattle.script_lang.specs.Fits.{command_count}
use Rattle.script_lang.proofs.block.commands_in_all.Given as goal

-- the commands of the actors so far
abbrev pub invariant-loop-actor : goal.invariant-loop-actor
invariant-loop-actor l = l.all ≡ command_count (take l.actor-index l.actors)
