-- THE RUN OF A TEXT: that of a script in the order of the turns that a printed text tells.
use Rattle.std.specs.Prelude.{ℕ, ◌≡◌, true, false, List, length, Some, Ok, Err}
use Rattle.fabric.specs.Run.{Layout}
use Rattle.fabric.specs.declared.stop.StopCause.{StopCause}
use Rattle.fabric.specs.declared.stop.StopCause.TheVariants.{JournalFull}
use Rattle.journal.specs.Logs.{Log}
use Rattle.journal.specs.declared.effect.Step.{Step}
use Rattle.journal_read.specs.Bounds.{full_in}
use Rattle.journal_read.specs.Printed.{AllFit}
use Rattle.journal_read.specs.Reading.{read_in}
use Rattle.journal_text.specs.Text.{text_of}
use Rattle.order_lines.specs.Fronts.{OrderedParts, ordered_of}
use Rattle.orders.specs.Runs.{IsInOrder, IsStoppedInOrder}
use Rattle.script_lang.specs.Parts.{ScriptParts}
use Rattle.stage.specs.Plays.{IsSoFar}
use Rattle.stage.specs.Stops.{IsCauseOf}
use Rattle.stage.specs.Turns.{is_over}
use Rattle.text_replay.specs.Front.{told_order}
use Rattle.text_replay.specs.Lines.{other_line}
use Rattle.text_replay.specs.declared.stop.ReplayStop.{ReplayStop}
use Rattle.text_replay.specs.declared.stop.ReplayStop.TheVariants.{Bad, Unread, Full, Other}
use Rattle.text_replay.specs.declared.stop.ReplayStop.TheVariants.{JournalFull as Filled, NoMemory}

-- bytes spell a script, whose own lines `order` mean nothing here
pub record SpellsScript (bytes : List ℕ) (script : ScriptParts) : Type 0 where
  pub ordered : OrderedParts
  pub spelled : ordered_of bytes ≡ Ok ordered
  pub of : ordered.script ≡ script

-- a journal with this log is that of a script's whole run in the order that these steps tell
pub record IsToldRun (script : ScriptParts) (P : List Step) (log : Log) : Type 0 where
  pub run : Layout
  pub logged : run.log ≡ log
  pub so_far : IsSoFar script run
  pub whole : IsInOrder script (told_order script P) run

-- a run in this order stopped, for this cause, before all was over
pub record IsToldStop (script : ScriptParts) (P : List Step) (cause : StopCause) : Type 0 where
  pub run : Layout
  pub so_far : IsSoFar script run
  pub stopped : IsStoppedInOrder script (told_order script P) run
  pub due : is_over run ≡ false
  pub why : IsCauseOf cause run.log.steps

-- a text is that of a whole run of a script, made by threads or not, of so many steps
pub record IsTextOfRun (script : ScriptParts) (text : List ℕ) (steps : ℕ) : Type 0 where
  pub run : Layout
  pub so_far : IsSoFar script run
  pub over : is_over run ≡ true
  pub is : text ≡ text_of run.log
  pub counted : steps ≡ length run.log.steps

-- a text is that of no whole run of a script, made by threads or not, of those runs whose numbers
-- fit the lines of a text
abbrev pub IsTextOfNone : ScriptParts → List ℕ → Type 0
IsTextOfNone script text =
    (run : Layout) → IsSoFar script run → is_over run ≡ true → AllFit script.names run.log.steps
    → text ≡ text_of run.log → ⊥

-- a text tells another run than its makers make: this line of it is the first other one
pub record IsOtherAt (script : ScriptParts) (text : List ℕ) (line : ℕ) : Type 0 where
  pub steps : List Step
  pub log : Log
  pub read : read_in script.names text ≡ Ok steps
  pub run : IsToldRun script steps log
  pub first : other_line text (text_of log) ≡ Some line
  pub none : IsTextOfNone script text

-- the run that the makers of a text make is stopped by a full journal
pub record IsFilledBy (script : ScriptParts) (text : List ℕ) : Type 0 where
  pub steps : List Step
  pub read : read_in script.names text ≡ Ok steps
  pub stop : IsToldStop script steps JournalFull
  pub none : IsTextOfNone script text

-- why a text isn't that of a run of a script
abbrev pub IsStopIn : ScriptParts → List ℕ → ReplayStop → Type 0
IsStopIn script text (Unread line) = read_in script.names text ≡ Err line
IsStopIn script text (Full line) = full_in script.names text ≡ Some line
IsStopIn script text (Other line) = IsOtherAt script text line
IsStopIn script text Filled = IsFilledBy script text
IsStopIn script text NoMemory = Unit {0}
IsStopIn script text _ = ⊥

-- the bytes spell a script, and the text stops as that of no run of it
pub record IsStopOfScript (bytes text : List ℕ) (stop : ReplayStop) : Type 0 where
  pub script : ScriptParts
  pub spelled : SpellsScript bytes script
  pub why : IsStopIn script text stop

-- WHY A TEXT ISN'T THAT OF A RUN: the bytes are no script, and this is their first bad line; or they
-- spell one, and no run of it has this text; or memory was refused
abbrev pub IsStopOf : List ℕ → List ℕ → ReplayStop → Type 0
IsStopOf bytes text (Bad line fault) = ordered_of bytes ≡ Err (line, fault)
IsStopOf bytes text NoMemory = Unit {0}
IsStopOf bytes text stop = IsStopOfScript bytes text stop

-- A TEXT IS THAT OF A WHOLE RUN of the script that bytes spell, of so many steps
pub record IsReplayed (bytes text : List ℕ) (steps : ℕ) : Type 0 where
  pub script : ScriptParts
  pub spelled : SpellsScript bytes script
  pub is : IsTextOfRun script text steps
