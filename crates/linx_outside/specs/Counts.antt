-- Counts of faults, which may have a last value: a count that stands there can't rise.
use Rattle.std.specs.Prelude.{◌≡◌, ℕ, ◌+◌, ◌-◌, ◌^◌, ◌<◌, ◌≤◌, ◌⊎◌, Option, Some, min}

-- the last value of a count that is kept in a `u64`
abbrev pub last_u64 : ℕ
last_u64 = 2 ^ 64 - 1

-- a count that is kept in a `u64`, raised by one: it stands still at its last value
abbrev pub raised : ℕ → ℕ
raised n = min (n + 1) last_u64

-- the count rose, or stands at its last value
abbrev pub HasFaulted : Option ℕ → ℕ → ℕ → Type 0
HasFaulted last old new = (old < new) ⊎ (last ≡ Some new)

-- the count didn't fall, and stayed if it stood at its last value
pub record NeverFalls (last : Option ℕ) (old new : ℕ) : Type 0 where
  pub no_lower : old ≤ new
  pub stands : last ≡ Some old → new ≡ old
