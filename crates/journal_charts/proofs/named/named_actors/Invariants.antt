use Rattle.std.proofs.Common.{◌≡◌, ◌++◌, drop}
use Rattle.journal_charts.specs.Named.{named_actors}
use Rattle.journal_charts.proofs.named.named_actors.Given as goal

-- the actors so far, and those that are left, are all of them
abbrev pub invariant-loop-actor : goal.invariant-loop-actor
invariant-loop-actor l =
    l.drawn.items ++ named_actors l.names l.number (drop l.actor-index l.actors)
    ≡ named_actors l.names 1 l.actors
