use Rattle.std.proofs.Common.{◌≡◌, ℕ, take, nat_eq, if◌then◌else◌}
use Rattle.std.specs.List.{list_any}
use Rattle.std.specs.HashMap.{get}
use Rattle.journal.specs.History.{opens, name_in}
use Rattle.journal_text.proofs.collecting.keep_opened.Given as goal

-- the openings so far are kept
abbrev pub invariant-loop-effect : goal.invariant-loop-effect
invariant-loop-effect l = (q : ℕ) → get nat_eq l.opened q
    ≡ (if list_any (opens (record { 0 = q })) (take l.effect-index l.effects) then name_in l.head
    else get nat_eq l.initial.opened q)
