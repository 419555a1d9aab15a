-- THE TEXT OF A LEGAL RUN of a script, and why a text isn't one.
use Rattle.std.specs.Prelude.{ℕ, ◌≡◌, List, length, Option, None, Some, Ok, Err}
use Rattle.image_laws.specs.Told.{told_of}
use Rattle.journal.specs.declared.effect.Step.{Step}
use Rattle.journal_check.specs.Faults.{IsFault}
use Rattle.journal_check.specs.declared.law.Fault.{Fault}
use Rattle.journal_read.specs.Bounds.{full_in}
use Rattle.journal_read.specs.Reading.{read_in}
use Rattle.link_laws.specs.Laws.{IsLegal}
use Rattle.order_lines.specs.Fronts.{OrderedParts, ordered_of}
use Rattle.reading_laws.specs.Printed.{shown_of}
use Rattle.script_lang.specs.Parts.{ScriptParts}
use Rattle.stage.specs.Turns.{shape_of}
use Rattle.text_logs.specs.First.{first_other, front_of}
use Rattle.text_check.specs.declared.stop.CheckStop.{CheckStop}
use Rattle.text_check.specs.declared.stop.CheckStop.TheVariants.{Bad, Unread, Full}
use Rattle.text_check.specs.declared.stop.CheckStop.TheVariants.{Illegal, Log, NoMemory}

-- bytes spell a script; its lines `order` mean nothing here
pub record SpellsScript (bytes : List ℕ) (script : ScriptParts) : Type 0 where
  pub ordered : OrderedParts
  pub spelled : ordered_of bytes ≡ Ok ordered
  pub of : ordered.script ≡ script

-- the first line of a text that isn't that of the logs which these steps tell, with a script's names
abbrev pub other_log : ScriptParts → List ℕ → List Step → Option ℕ
other_log script text P = first_other text (front_of (record { names = script.names; steps = P }))

-- A TEXT IS THAT OF A LEGAL RUN of a script, of so many steps: it spells steps that are legal, with
-- what their attaches tell of their notifications, and its logs are theirs
pub record IsLegalText (script : ScriptParts) (text : List ℕ) (count : ℕ) : Type 0 where
  pub steps : List Step
  pub read : read_in script.names text ≡ Ok steps
  pub legal : IsLegal (shape_of script) (told_of shown_of steps)
  pub logs : other_log script text steps ≡ None
  pub counted : count ≡ length steps

-- a text spells steps of which this is the first fault
pub record IsIllegalText (script : ScriptParts) (text : List ℕ) (fault : Fault) : Type 0 where
  pub steps : List Step
  pub read : read_in script.names text ≡ Ok steps
  pub first : IsFault (shape_of script) (told_of shown_of steps) fault

-- a text spells legal steps, and this line is the first that isn't of their logs
pub record HasOtherLog (script : ScriptParts) (text : List ℕ) (line : ℕ) : Type 0 where
  pub steps : List Step
  pub read : read_in script.names text ≡ Ok steps
  pub legal : IsLegal (shape_of script) (told_of shown_of steps)
  pub other : other_log script text steps ≡ Some line

-- why a text isn't that of a legal run of a script
abbrev pub IsStopIn : ScriptParts → List ℕ → CheckStop → Type 0
IsStopIn script text (Unread line) = read_in script.names text ≡ Err line
IsStopIn script text (Full line) = full_in script.names text ≡ Some line
IsStopIn script text (Illegal fault) = IsIllegalText script text fault
IsStopIn script text (Log line) = HasOtherLog script text line
IsStopIn script text NoMemory = Unit {0}
IsStopIn script text _ = ⊥

-- one of these, of the script that bytes spell
pub record IsStopOfScript (bytes text : List ℕ) (stop : CheckStop) : Type 0 where
  pub script : ScriptParts
  pub spelled : SpellsScript bytes script
  pub why : IsStopIn script text stop

-- WHY A TEXT ISN'T THAT OF A LEGAL RUN: the bytes are no script, and this is their first bad line; or
-- they spell one, and the text is none of its legal runs'; or memory was refused
abbrev pub IsStopOf : List ℕ → List ℕ → CheckStop → Type 0
IsStopOf bytes text (Bad line fault) = ordered_of bytes ≡ Err (line, fault)
IsStopOf bytes text NoMemory = Unit {0}
IsStopOf bytes text stop = IsStopOfScript bytes text stop

-- A TEXT IS THAT OF A LEGAL RUN of the script that bytes spell, of so many steps
pub record IsChecked (bytes text : List ℕ) (count : ℕ) : Type 0 where
  pub script : ScriptParts
  pub spelled : SpellsScript bytes script
  pub legal : IsLegalText script text count
