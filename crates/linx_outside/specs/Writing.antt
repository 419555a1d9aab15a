-- What a write answered.
use Rattle.std.specs.Prelude.{ℕ, ◌==◌, ◌||◌, nat_lt, Result, Ok, Err, if◌then◌else◌}
use Rattle.linx_outside.specs.declared.sink.WriteAnswer.{WriteAnswer}
use Rattle.linx_outside.specs.declared.sink.WriteAnswer.TheVariants.{Took, Failed}

-- what a write of std is to a sink, for a piece of this size: each error is a fault, and so is a
-- write that takes nothing of some bytes
abbrev pub write_answer : {E : Type 0} → Result ℕ E → ℕ → WriteAnswer
write_answer (Ok count) size = if nat_lt 0 count || size == 0 then Took count else Failed
write_answer (Err error) size = Failed

-- if bytes were taken, this holds of their number
abbrev pub IfTook : WriteAnswer → (ℕ → Type 0) → Type 0
IfTook (Took count) holds = holds count
IfTook Failed holds = Unit {0}

-- bytes were taken, and this holds of their number
abbrev pub IsTookAnd : WriteAnswer → (ℕ → Type 0) → Type 0
IsTookAnd (Took count) holds = holds count
IsTookAnd Failed holds = ⊥

-- a write failed
abbrev pub IsWriteFailed : WriteAnswer → Type 0
IsWriteFailed (Took count) = ⊥
IsWriteFailed Failed = Unit {0}

-- if the write failed, this holds
abbrev pub IfWriteFailed : WriteAnswer → Type 0 → Type 0
IfWriteFailed (Took count) holds = Unit {0}
IfWriteFailed Failed holds = holds
