-- What reading gives.
use Rattle.std.specs.Prelude.{◌≡◌, false, List, ℕ, IsTrue, Result, Ok, Err}
use Rattle.linx_base.specs.NameText.{is_name}
use Rattle.rlnh_messages.specs.declared.rlnh.Rlnh.{Rlnh}
use Rattle.rlnh_messages.specs.declared.reading.RlnhError.{RlnhError}
use Rattle.rlnh_messages.specs.declared.reading.RlnhError.TheVariants.{Bad, NoMemory}
use Rattle.rlnh_messages.specs.Messages.{Spells}

-- the bytes as a name: where memory is refused, they are one
abbrev pub IsNameReading : Result (List ℕ) RlnhError → List ℕ → Type 0
IsNameReading (Ok name) bytes = (name ≡ bytes) × IsTrue (is_name bytes)
IsNameReading (Err Bad) bytes = is_name bytes ≡ false
IsNameReading (Err NoMemory) bytes = IsTrue (is_name bytes)

-- the message that the bytes spell, or Bad where they spell none: where memory is refused, they
-- spell one
abbrev pub IsRlnhReading : Result Rlnh RlnhError → List ℕ → Type 0
IsRlnhReading (Ok message) bytes = Spells message bytes
IsRlnhReading (Err Bad) bytes = (message : Rlnh) → ¬ (Spells message bytes)
IsRlnhReading (Err NoMemory) bytes = (message : Rlnh) × Spells message bytes
