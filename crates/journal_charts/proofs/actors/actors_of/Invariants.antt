use Rattle.std.proofs.Common.{◌≡◌, map, take}
use Rattle.journal_charts.specs.Actors.{drawn_actor}
use Rattle.journal_charts.proofs.actors.actors_of.Given as goal

-- the actors so far are there
abbrev pub invariant-loop-actor : goal.invariant-loop-actor
invariant-loop-actor l = l.actors.items
    ≡ map (drawn_actor l.journal.log.steps) (take l.actor-index l.actor-items)
