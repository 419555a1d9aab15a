use Rattle.std.proofs.Common.{◌≡◌, ◌++◌, List, take}
use Rattle.journal.specs.declared.effect.Step.{Step}
use Rattle.chart.specs.Marks.{effect_marks}
use Rattle.chart.specs.Opened.{Opens}
use Rattle.chart.proofs.marks.put_effects.Given as goal

-- the effects so far have their marks
abbrev pub invariant-loop-index : goal.invariant-loop-index
invariant-loop-index l = (S : List Step) → Opens S l.openers
    → l.marks.items ≡ l.initial.marks.items ++ effect_marks S l.by l.position 1 (take l.index l.effects)
