-- Moments, and the second between them.
use Rattle.std.specs.Prelude.{◌+◌, ◌≤◌, Option, Some, None}
use Rattle.std.specs.Time.{instant_nanos}
use Rattle.std.specs.declared.time.Instant.{Instant}

-- both moments are known, and the second of them is a second or more behind the first
abbrev pub IsSecondBehind : Option Instant → Option Instant → Type 0
IsSecondBehind (Some before) (Some now) = instant_nanos before + 1000000000 ≤ instant_nanos now
IsSecondBehind _ _ = ⊥
