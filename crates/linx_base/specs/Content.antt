use Rattle.std.specs.Prelude.{ℕ, ◌+◌, ◌-◌, List, [], ◌∷◌, ◌++◌, length, take, replicate}
use Rattle.linx_base.specs.SigNotes.{SigNote}
use Rattle.linx_base.specs.declared.signal.Reason.{Reason}
use Rattle.linx_base.specs.declared.signal.Reason.TheVariants.{Closed, Lost, Dead}

-- the most data bytes of a signal
abbrev pub data_limit : ℕ
data_limit = 65532

-- the size of a signal: 4 bytes of number, and its data
abbrev pub size_of : SigNote → ℕ
size_of note = 4 + length note.bytes

-- data cut or filled up with zeros to n bytes
abbrev pub resized : List ℕ → ℕ → List ℕ
resized bytes n = take n bytes ++ replicate (n - length bytes) 0

-- the byte that a notification's signal carries for its reason
abbrev pub reason_byte : Reason → ℕ
reason_byte Closed = 0
reason_byte Lost = 1
reason_byte Dead = 2

-- a signal with the byte of a reason behind its data
abbrev pub with_reason : Reason → SigNote → SigNote
with_reason reason note = record note { bytes = note.bytes ++ reason_byte reason ∷ [] }
