use Rattle.std.proofs.Common.{◌≡◌, ◌++◌, ℕ, take}
use Rattle.journal_text.specs.Texts.{kept}
use Rattle.journal_text.specs.Known.{digest_by}
use Rattle.journal_text.specs.Blocks.{effect_logs}
use Rattle.journal_text.proofs.collecting.add_effects.Given as goal

-- the effects so far have their lines
abbrev pub invariant-loop-index : goal.invariant-loop-index
invariant-loop-index l = (q : ℕ) → kept l.lines q
    ≡ kept l.initial.lines q ++ effect_logs (digest_by l.digests.by) l.names (record { 0 = q })
    (take l.index l.step.effects)
