-- How what is done with a printed text ends.
use Rattle.std.specs.Prelude.{ℕ, ◌≡◌, ◌≤◌, ◌<◌, List, length, Some, None, Ok, Err}
use Rattle.journal.specs.Logs.{Log}
use Rattle.journal_read.specs.Bounds.{full_in}
use Rattle.journal_read.specs.Reading.{read_in}
use Rattle.text_names.specs.Numbering.{names_in}
use Rattle.turn_lines.specs.Text.{order_text}
use Rattle.turn_lines.specs.Turns.{turn_makers}
use Rattle.linx_commands.specs.Runs.{IsEmptyLog}
use Rattle.linx_commands.specs.declared.outcome.Status.{Status}
use Rattle.linx_commands.specs.declared.outcome.Status.TheVariants.{Done, WriteFault, NoMemory, Text}
use Rattle.linx_commands.specs.declared.outcome.TextFault.{TextFault}
use Rattle.linx_commands.specs.declared.outcome.TextFault.TheVariants.{Bad, Full, Long}

-- the most bytes that a printed text may have
abbrev pub text_most : ℕ
text_most = 268435456

-- bytes are the printed text of this journal, read with the names that it spells
pub record IsTextOf (bytes : List ℕ) (log : Log) : Type 0 where
  pub short : length bytes ≤ text_most
  pub names : log.names ≡ names_in bytes
  pub read : read_in (names_in bytes) bytes ≡ Ok log.steps
  pub room : full_in (names_in bytes) bytes ≡ None

-- bytes that aren't too many are no printed text: this is the first line that none has there
pub record IsBadAt (bytes : List ℕ) (line : ℕ) : Type 0 where
  pub short : length bytes ≤ text_most
  pub bad : read_in (names_in bytes) bytes ≡ Err line
  pub room : full_in (names_in bytes) bytes ≡ None

-- bytes that aren't too many tell more signals than a journal holds: this is the first line that does
pub record IsFullAt (bytes : List ℕ) (line : ℕ) : Type 0 where
  pub short : length bytes ≤ text_most
  pub full : full_in (names_in bytes) bytes ≡ Some line

-- what is wrong with bytes that are no printed text, or one that is too large
abbrev pub IsFaultOf : List ℕ → TextFault → Type 0
IsFaultOf bytes (Bad line) = IsBadAt bytes line
IsFaultOf bytes (Full line) = IsFullAt bytes line
IsFaultOf bytes Long = text_most < length bytes
IsFaultOf bytes _ = ⊥

-- what a status says of bytes that gave no journal
abbrev pub IsUnreadText : List ℕ → Status → Type 0
IsUnreadText bytes (Text fault) = IsFaultOf bytes fault
IsUnreadText bytes NoMemory = Unit {0}
IsUnreadText bytes _ = ⊥

-- a text is the lines `order` that list the turns of a printed text's steps
pub record IsOrdered (bytes text : List ℕ) : Type 0 where
  pub log : Log
  pub spelled : IsTextOf bytes log
  pub is : text ≡ order_text (turn_makers log.steps)

-- WHAT EACH STATUS SAYS of the order of the printed text that these bytes are, and of the text that
-- is written of it
abbrev pub IsOrderEnd : List ℕ → Status → List ℕ → Type 0
IsOrderEnd bytes Done text = IsOrdered bytes text
IsOrderEnd bytes WriteFault text = IsOrdered bytes text
IsOrderEnd bytes (Text fault) text = IsFaultOf bytes fault
IsOrderEnd bytes NoMemory text = Unit {0}
IsOrderEnd bytes _ text = ⊥

-- a work with a text ended with such a status and such a text, and with an empty journal
pub record IsTextDone (ends : Status → List ℕ → Type 0) (status : Status) (text : List ℕ) (log : Log)
    : Type 0 where
  pub ended : ends status text
  pub empty : IsEmptyLog log
