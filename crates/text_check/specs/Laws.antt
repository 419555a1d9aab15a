-- Which texts are those of legal runs.
use Rattle.std.specs.Prelude.{ℕ, ◌≡◌, List, length}
use Rattle.journal.specs.Logs.{Log}
use Rattle.journal_read.specs.Printed.{AllFit}
use Rattle.journal_text.specs.Text.{text_by, text_of}
use Rattle.journal_text.specs.Values.{first_bytes}
use Rattle.link_laws.specs.Laws.{IsLegal}
use Rattle.printed_laws.specs.Laws.{IsRunAsShown}
use Rattle.script_lang.specs.Fits.{IsScript}
use Rattle.script_lang.specs.Parts.{ScriptParts}
use Rattle.stage.specs.Turns.{shape_of}
use Rattle.text_check.specs.Checks.{IsLegalText}

-- THE TEXT OF A LEGAL RUN PASSES, whoever made it: each journal with the names of a script that is
-- legal for its shape, and whose numbers fit a text's lines
abbrev pub TextsOfLegalRunsPass : Type 0
TextsOfLegalRunsPass =
    (script : ScriptParts) (log : Log) → IsScript script → log.names ≡ script.names
    → AllFit script.names log.steps → IsLegal (shape_of script) log.steps
    → IsLegalText script (text_of log) (length log.steps)

-- a legal text is that of the steps which it spells, printed byte for byte, and they are those of a
-- legal run as far as a text tells
pub record IsPrintedRun (script : ScriptParts) (text : List ℕ) (count : ℕ)
    (legal : IsLegalText script text count) : Type 0 where
  pub printed : text ≡ text_by first_bytes (record { names = script.names; steps = legal.steps })
  pub shown : IsRunAsShown script.names (shape_of script) text legal.steps

-- AND WHAT PASSES IS THE TEXT OF A LEGAL RUN
abbrev pub LegalTextsArePrinted : Type 0
LegalTextsArePrinted =
    (script : ScriptParts) (text : List ℕ) (count : ℕ) → IsScript script
    → (legal : IsLegalText script text count) → IsPrintedRun script text count legal
