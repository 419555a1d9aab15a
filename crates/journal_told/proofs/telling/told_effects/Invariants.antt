use Rattle.std.proofs.Common.{◌≡◌, take, map}
use Rattle.journal.specs.Histories.{first_steps}
use Rattle.reading_laws.specs.Printed.{shown_of}
use Rattle.image_laws.specs.Told.{told_effect}
use Rattle.journal_told.proofs.telling.told_effects.Given as goal

-- the effects so far are told
abbrev pub invariant-loop-effect : goal.invariant-loop-effect
invariant-loop-effect l =
    l.told ≡ map (told_effect shown_of (first_steps l.first l.journal.log.steps))
    (take l.effect-index l.effects)
