use Rattle.std.proofs.Common.{◌≡◌, ◌+◌, List, drop}
use Rattle.journal.specs.declared.effect.Step.{Step}
use Rattle.chart.specs.Carried.{with_effects}
use Rattle.chart.specs.Opened.{Opens}
use Rattle.chart.proofs.carried.Carried.effects.Given as goal

-- with the effects that are left it is what it is with all
abbrev pub invariant-loop-index : goal.invariant-loop-index
invariant-loop-index l = (S : List Step) → Opens S l.openers
    → with_effects S l.position (l.index + 1) (drop l.index l.effects) l.self
    ≡ with_effects S l.position 1 l.effects l.initial.self
