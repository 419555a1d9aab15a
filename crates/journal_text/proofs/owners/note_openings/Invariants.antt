use Rattle.std.proofs.Common.{◌≡◌, ℕ, take, ◌==◌, nat_eq, if◌then◌else◌}
use Rattle.std.specs.HashMap.{get}
use Rattle.journal.specs.History.{last_opened}
use Rattle.journal_text.proofs.owners.note_openings.Given as goal

-- the openings so far are noted for the actor
abbrev pub invariant-loop-effect : goal.invariant-loop-effect
invariant-loop-effect l = (q : ℕ) → get nat_eq l.last q
    ≡ (if l.actor == q then last_opened (get nat_eq l.initial.last q)
    (take l.effect-index l.effects)
    else get nat_eq l.initial.last q)
