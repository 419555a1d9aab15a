use Rattle.std.proofs.Common.{◌≡◌, ◌++◌, take}
use Rattle.chart.specs.Carried.{lost_ties}
use Rattle.chart.proofs.carried.put_lost.Given as goal

-- the signals so far have their ties
abbrev pub invariant-loop-flight : goal.invariant-loop-flight
invariant-loop-flight l =
    l.ties.items ≡ l.initial.ties.items ++ lost_ties (take l.flight-index l.flights)
