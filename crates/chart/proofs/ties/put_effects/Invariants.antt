use Rattle.std.proofs.Common.{◌≡◌, ◌++◌, take}
use Rattle.chart.specs.Ties.{effect_ties}
use Rattle.chart.proofs.ties.put_effects.Given as goal

-- the effects so far have their ties
abbrev pub invariant-loop-index : goal.invariant-loop-index
invariant-loop-index l = l.ties.items
    ≡ l.initial.ties.items ++ effect_ties l.position 1 l.head (take l.index l.effects)
