-- How the check of a printed text ends, of an input that has a script and behind it the text.
use Rattle.std.specs.Prelude.{ℕ, ◌≡◌, ◌≤◌, ◌<◌, List, codes, length, Some}
use Rattle.script_texts.specs.Places.{script_in, text_in}
use Rattle.text_check.specs.Checks.{IsChecked, IsStopOf}
use Rattle.text_check.specs.declared.stop.CheckStop.{CheckStop}
use Rattle.text_check.specs.declared.stop.CheckStop.TheVariants as stops
use Rattle.linx_commands.specs.Printed.{text_most}
use Rattle.linx_commands.specs.Replays.{HasNoText}
use Rattle.linx_commands.specs.Verdicts.{verdict_line}
use Rattle.linx_commands.specs.declared.outcome.Status.{Status}
use Rattle.linx_commands.specs.declared.outcome.Status.TheVariants.{Done, Script, WriteFault}
use Rattle.linx_commands.specs.declared.outcome.Status.TheVariants.{NoMemory, Text, Illegal}
use Rattle.linx_commands.specs.declared.outcome.TextFault.{TextFault}
use Rattle.linx_commands.specs.declared.outcome.TextFault.TheVariants.{Bad, Full, Long, Missing}
use Rattle.linx_commands.specs.declared.outcome.TextFault.TheVariants.{Log as LogAt}

-- an input has a script and the text of a legal run of it, and this is written of that
pub record IsLegalInput (bytes text : List ℕ) : Type 0 where
  pub short : length bytes ≤ text_most
  pub printed : List ℕ
  pub there : text_in bytes ≡ Some printed
  pub steps : ℕ
  pub checked : IsChecked (script_in bytes) printed steps
  pub is : text ≡ verdict_line (codes "legal") steps

-- an input has a script and a text that is that of no legal run, for this reason
pub record IsRefusedInput (bytes : List ℕ) (stop : CheckStop) : Type 0 where
  pub short : length bytes ≤ text_most
  pub printed : List ℕ
  pub there : text_in bytes ≡ Some printed
  pub why : IsStopOf (script_in bytes) printed stop

-- what is wrong with the text of an input
abbrev pub IsFaultOfInput : List ℕ → TextFault → Type 0
IsFaultOfInput bytes (Bad line) = IsRefusedInput bytes (stops.Unread line)
IsFaultOfInput bytes (Full line) = IsRefusedInput bytes (stops.Full line)
IsFaultOfInput bytes (LogAt line) = IsRefusedInput bytes (stops.Log line)
IsFaultOfInput bytes Long = text_most < length bytes
IsFaultOfInput bytes Missing = HasNoText bytes
IsFaultOfInput bytes _ = ⊥

-- WHAT EACH STATUS SAYS of the check of this input, and of the text that is written of it
abbrev pub IsCheckEnd : List ℕ → Status → List ℕ → Type 0
IsCheckEnd bytes Done text = IsLegalInput bytes text
IsCheckEnd bytes WriteFault text = IsLegalInput bytes text
IsCheckEnd bytes (Script line fault) text = IsRefusedInput bytes (stops.Bad line fault)
IsCheckEnd bytes (Text fault) text = IsFaultOfInput bytes fault
IsCheckEnd bytes (Illegal fault) text = IsRefusedInput bytes (stops.Illegal fault)
IsCheckEnd bytes NoMemory text = Unit {0}
IsCheckEnd bytes _ text = ⊥

-- how a check ends whose text isn't that of a legal run
abbrev pub check_status : CheckStop → Status
check_status (stops.Bad line fault) = Script line fault
check_status (stops.Unread line) = Text (Bad line)
check_status (stops.Full line) = Text (Full line)
check_status (stops.Illegal fault) = Illegal fault
check_status (stops.Log line) = Text (LogAt line)
check_status stops.NoMemory = NoMemory
