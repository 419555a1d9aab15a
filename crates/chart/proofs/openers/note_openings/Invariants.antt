use Rattle.std.proofs.Common.{◌≡◌, ℕ, take, Some, nat_eq, if◌then◌else◌}
use Rattle.std.specs.List.{list_any}
use Rattle.std.specs.HashMap.{get}
use Rattle.journal.specs.History.{opens}
use Rattle.chart.proofs.openers.note_openings.Given as goal

-- the openings so far are noted
abbrev pub invariant-loop-effect : goal.invariant-loop-effect
invariant-loop-effect l = (q : ℕ) → get nat_eq l.openers q
    ≡ (if list_any (opens (record { 0 = q })) (take l.effect-index l.effects) then Some l.by
    else get nat_eq l.initial.openers q)
