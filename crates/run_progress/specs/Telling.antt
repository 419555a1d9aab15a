-- What a sink has of a line that wasn't written.
use Rattle.std.specs.Prelude.{◌≡◌, ◌⊎◌, ℕ, List, Option}
use Rattle.linx_outside.specs.Counts.{HasFaulted}
use Rattle.linx_outside.specs.Told.{AppendsFront}

-- a write failed, and the sink grew by a front of the line
pub record BreaksOff {K : Type 0} (held : K → Option (List ℕ)) (faults : K → ℕ) (last : Option ℕ)
    (old new : K) (line : List ℕ) : Type 0 where
  pub front : AppendsFront (held old) (held new) line
  pub faulted : HasFaulted last (faults old) (faults new)

-- the sink is as it was, or the line broke off
abbrev pub WritesNoLine : {K : Type 0} → (K → Option (List ℕ)) → (K → ℕ) → Option ℕ → K → K
    → List ℕ → Type 0
WritesNoLine held faults last old new line =
    (new ≡ old) ⊎ BreaksOff held faults last old new line
