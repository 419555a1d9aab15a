-- What is read of the text of a legal journal, and which texts pass as that of one.
use Rattle.std.specs.Prelude.{ℕ, ◌≡◌, ◌≢◌, ◌<◌, List, [], ◌∷◌, ◌++◌, length, map, Result, Ok}
use Rattle.std.specs.Prelude.{IsSomeAnd}
use Rattle.std.specs.Result.{result_ok}
use Rattle.linx_base.specs.Content.{reason_byte}
use Rattle.linx_base.specs.declared.name.Names.{Names}
use Rattle.linx_base.specs.declared.signal.Reason.{Reason}
use Rattle.journal.specs.Logs.{Log}
use Rattle.journal.specs.Shapes.{Shape}
use Rattle.journal.specs.declared.effect.Step.{Step}
use Rattle.journal_text.specs.Text.{text_of}
use Rattle.link_laws.specs.Laws.{IsLegal}
use Rattle.reading_laws.specs.Forms.{AreNames}
use Rattle.reading_laws.specs.Printed.{shown_of}
use Rattle.journal_read.specs.Printed.{AllFit, read_step}
use Rattle.journal_read.specs.Reading.{read_in}
use Rattle.journal_read.specs.Spelled.{SpellsText}
use Rattle.image_laws.specs.Told.{AllNoticed, told_of}

-- A LEGAL JOURNAL THAT WAS PRINTED IS READ AS A LEGAL ONE, with what its attaches tell of their
-- notifications
abbrev pub PrintedStaysLegal : Type 0
PrintedStaysLegal = (shape : Shape) (P : List Step) → IsLegal shape P
    → IsLegal shape (told_of shown_of (map read_step P))

-- what is read of long data doesn't end with the byte of a reason
abbrev pub StandInsTellNothing : Type 0
StandInsTellNothing = (bytes attached : List ℕ) (reason : Reason) → 32 < length bytes
    → shown_of bytes ≢ attached ++ reason_byte reason ∷ []

-- the text spells steps, and these are legal with what their attaches tell
abbrev pub Passes : Names → Shape → List ℕ → Type 0
Passes names shape text =
    IsSomeAnd (result_ok (read_in names text)) (λ R. IsLegal shape (told_of shown_of R))

-- A LEGAL RUN PASSES: its text does
abbrev pub LegalRunsPass : Type 0
LegalRunsPass = (log : Log) (shape : Shape) → AreNames log.names → AllFit log.names log.steps
    → IsLegal shape log.steps → Passes log.names shape (text_of log)

-- the text is that of a legal run, as far as a text tells: it spells its steps, and these are legal
-- but for the data of notifications, which are those of their attaches, as far as they are shown
pub record IsRunAsShown (names : Names) (shape : Shape) (text : List ℕ) (R : List Step) : Type 0
  where
    pub spelled : SpellsText names R text
    pub noticed : AllNoticed shown_of R
    pub legal : IsLegal shape (told_of shown_of R)

-- AND WHAT PASSES is the text of a legal run, as far as it tells
abbrev pub PassingAreRuns : Type 0
PassingAreRuns = (names : Names) → AreNames names → (shape : Shape) (text : List ℕ)
    → Passes names shape text
    → IsSomeAnd (result_ok (read_in names text)) (λ R. IsRunAsShown names shape text R)
