use Rattle.std.proofs.Common.{◌≡◌, ℕ, ◌+◌, ◌-◌, length}
use Rattle.linx_timers.specs.Entries.{entry_at}
use Rattle.linx_timers.proofs.entries.make_place.Given as goal

-- each place has what it had
abbrev pub invariant-room : goal.invariant-room
invariant-room l = (s : ℕ) → entry_at l.places.items s ≡ entry_at l.fn.places.items s

abbrev pub decreases-room : goal.decreases-room
decreases-room l = l.fn.slot + 1 - length l.places.items
