-- What the parts of a check give, each by itself.
use Rattle.std.specs.Prelude.{ℕ, ◌≡◌, List, None, Some, Err}
use Rattle.image_laws.specs.Told.{told_of}
use Rattle.journal.specs.Logs.{Log}
use Rattle.journal.specs.declared.effect.Step.{Step}
use Rattle.journal_check.specs.Faults.{IsFault}
use Rattle.journal_read.specs.Bounds.{full_in}
use Rattle.journal_read.specs.Reading.{read_in}
use Rattle.linx_base.specs.declared.name.Names.{Names}
use Rattle.link_laws.specs.Laws.{IsLegal}
use Rattle.order_lines.specs.Fronts.{ordered_of}
use Rattle.reading_laws.specs.Printed.{shown_of}
use Rattle.script_lang.specs.Parts.{ScriptParts}
use Rattle.stage.specs.Turns.{shape_of}
use Rattle.text_logs.specs.First.{first_other, front_of}
use Rattle.text_check.specs.declared.stop.CheckStop.{CheckStop}
use Rattle.text_check.specs.declared.stop.CheckStop.TheVariants.{Bad, Unread, Full, Illegal, Log as LogAt}
use Rattle.text_check.specs.declared.stop.CheckStop.TheVariants.{NoMemory}

-- why bytes gave no script
abbrev pub IsScriptStop : List ℕ → CheckStop → Type 0
IsScriptStop bytes (Bad line fault) = ordered_of bytes ≡ Err (line, fault)
IsScriptStop bytes NoMemory = Unit {0}
IsScriptStop bytes _ = ⊥

-- why a text gave no steps
abbrev pub IsReadStop : Names → List ℕ → CheckStop → Type 0
IsReadStop names text (Unread line) = read_in names text ≡ Err line
IsReadStop names text (Full line) = full_in names text ≡ Some line
IsReadStop names text NoMemory = Unit {0}
IsReadStop names text _ = ⊥

-- the steps that were read are legal, with what their attaches tell
abbrev pub IsJudged : ScriptParts → List Step → Type 0
IsJudged script P = IsLegal (shape_of script) (told_of shown_of P)

-- why they aren't
abbrev pub IsJudgeStop : ScriptParts → List Step → CheckStop → Type 0
IsJudgeStop script P (Illegal fault) = IsFault (shape_of script) (told_of shown_of P) fault
IsJudgeStop script P NoMemory = Unit {0}
IsJudgeStop script P _ = ⊥

-- a text has the logs of a journal
abbrev pub HasLogs : List ℕ → Log → Type 0
HasLogs text log = first_other text (front_of log) ≡ None

-- why it hasn't
abbrev pub IsLogStop : List ℕ → Log → CheckStop → Type 0
IsLogStop text log (LogAt line) = first_other text (front_of log) ≡ Some line
IsLogStop text log NoMemory = Unit {0}
IsLogStop text log _ = ⊥
