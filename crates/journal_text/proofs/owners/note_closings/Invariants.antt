use Rattle.std.proofs.Common.{◌≡◌, ℕ, take, ◌||◌, nat_eq}
use Rattle.std.specs.List.{list_any}
use Rattle.std.specs.HashSet.{contains}
use Rattle.journal.specs.History.{closes}
use Rattle.journal_text.proofs.owners.note_closings.Given as goal

-- the closings so far are noted
abbrev pub invariant-loop-effect : goal.invariant-loop-effect
invariant-loop-effect l = (q : ℕ) → contains nat_eq l.closed q
    ≡ (contains nat_eq l.initial.closed q
    || list_any (closes (record { 0 = q })) (take l.effect-index l.effects))
