-- How a reader of lines that may be refused memory follows a reading.
use Rattle.std.specs.Prelude.{ℕ, ◌≡◌, Result, Err}
use Rattle.script_lang.specs.declared.script_error.ScriptError.{ScriptError}
use Rattle.script_lang.specs.declared.script_error.ScriptError.TheVariants.{Bad, NoMemory}
use Rattle.script_words.specs.declared.fault.Fault.{Fault}
use Rattle.script_words.specs.declared.line_error.LineError.{LineError}
use Rattle.script_words.specs.declared.line_error.LineError.TheVariants as lines

-- a line's fault as an error
abbrev pub error_in : LineError → ℕ → ScriptError
error_in (lines.Bad fault) line = Bad line fault
error_in lines.NoMemory line = NoMemory

-- the error is the bad line, unless memory ran out
abbrev pub IsBadOf : {X : Type 0} → Result X (ℕ × Fault) → ScriptError → Type 0
IsBadOf reading (Bad line fault) = reading ≡ Err (line, fault)
IsBadOf reading NoMemory = Unit {0}
