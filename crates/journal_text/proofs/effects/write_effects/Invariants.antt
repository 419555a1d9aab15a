use Rattle.std.proofs.Common.{◌≡◌, ◌++◌, take, flat_map}
use Rattle.journal_text.specs.Known.{digest_by}
use Rattle.journal_text.specs.Steps.{effect_line}
use Rattle.journal_text.proofs.effects.write_effects.Given as goal

-- the effects so far have their lines
abbrev pub invariant-loop-index : goal.invariant-loop-index
invariant-loop-index l =
    l.out.items ≡ l.initial.out.items
    ++ flat_map (effect_line (digest_by l.digests.by) l.names) (take l.index l.step.effects)
