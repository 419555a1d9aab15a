-- What a text is whose logs are found.
use Rattle.std.specs.Prelude.{◌≡◌, ℕ, List, map, None, Ok}
use Rattle.linx_base.specs.declared.name.Names.{Names}
use Rattle.journal.specs.declared.effect.Step.{Step}
use Rattle.journal.specs.Logs.{Log}
use Rattle.journal_text.specs.Text.{text_by, text_of}
use Rattle.journal_text.specs.Values.{first_bytes}
use Rattle.journal_read.specs.Printed.{read_step}
use Rattle.journal_read.specs.Reading.{read_in}
use Rattle.reading_laws.specs.Forms.{AreNames}
use Rattle.text_logs.specs.First.{first_other, front_of}

-- what is read of the text of a run
abbrev pub image_of : Log → Log
image_of log = record log { steps = map read_step log.steps }

-- in the text of a journal, the logs of what is read of it are found
abbrev pub LogsAreFound : Type 0
LogsAreFound = (log : Log) → first_other (text_of log) (front_of (image_of log)) ≡ None

-- a text in which the logs of what was read of it are found is that journal, printed again
abbrev pub TextIsPrintedAgain : Type 0
TextIsPrintedAgain =
    (names : Names) (text : List ℕ) (P : List Step) → AreNames names → read_in names text ≡ Ok P
    → first_other text (front_of (record { names = names; steps = P })) ≡ None
    → text ≡ text_by first_bytes (record { names = names; steps = P })
