-- What a read answered.
use Rattle.std.specs.Prelude.{ℕ, Result, Ok, Err}
use Rattle.linx_outside.specs.declared.source.ReadAnswer.{ReadAnswer}
use Rattle.linx_outside.specs.declared.source.ReadAnswer.TheVariants.{Got, Failed}

-- what a read of std is to a source: each error is a fault
abbrev pub read_answer : {E : Type 0} → Result ℕ E → ReadAnswer
read_answer (Ok count) = Got count
read_answer (Err error) = Failed

-- if bytes were given, this holds of their number
abbrev pub IfGot : ReadAnswer → (ℕ → Type 0) → Type 0
IfGot (Got count) holds = holds count
IfGot Failed holds = Unit {0}

-- a read gave bytes
abbrev pub IsGot : ReadAnswer → Type 0
IsGot (Got count) = Unit {0}
IsGot Failed = ⊥

-- a read failed
abbrev pub IsReadFailed : ReadAnswer → Type 0
IsReadFailed (Got count) = ⊥
IsReadFailed Failed = Unit {0}

-- if the read failed, this holds
abbrev pub IfReadFailed : ReadAnswer → Type 0 → Type 0
IfReadFailed (Got count) holds = Unit {0}
IfReadFailed Failed holds = holds
