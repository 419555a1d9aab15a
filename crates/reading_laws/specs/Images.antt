-- What a line is read as, where a journal is printed: long data by what stands for them, and a
-- refusal without its step and its endpoint.
use Rattle.std.specs.Prelude.{◌≡◌, ℕ}
use Rattle.sha2.specs.Sha256.{sha256}
use Rattle.linx_base.specs.declared.name.Names.{Names}
use Rattle.linx_base.specs.SigNotes.{SigNote}
use Rattle.journal.specs.declared.head.Refusal.{Refusal}
use Rattle.journal.specs.declared.head.Refusal.TheVariants.{NotOpen, IsOpen, NoPeer, NoSignal}
use Rattle.journal.specs.declared.head.Refusal.TheVariants.{NoRef}
use Rattle.journal.specs.declared.head.Head.{Head}
use Rattle.journal.specs.declared.head.Head.TheVariants.{Send, Hunt, Attach, Refused}
use Rattle.journal.specs.declared.effect.Effect.{Effect}
use Rattle.journal.specs.declared.effect.Effect.TheVariants.{Arrived, Found, Notified}
use Rattle.journal_words.specs.declared.lines.Line.{Line}
use Rattle.journal_words.specs.declared.lines.Line.TheVariants.{Made, Happened}
use Rattle.reading_laws.specs.Forms.{printed}
use Rattle.reading_laws.specs.Printed.{shown_of}
use Rattle.reading_laws.specs.Spelled.{line_words}

-- a signal, with what is shown of its data
abbrev pub image_of_note : SigNote → SigNote
image_of_note note = record note { bytes = shown_of note.bytes }

-- a refusal without the numbers that aren't printed
abbrev pub image_of_refusal : Refusal → Refusal
image_of_refusal (NotOpen at) = NotOpen 0
image_of_refusal (IsOpen inc) = IsOpen (record { 0 = 0 })
image_of_refusal NoPeer = NoPeer
image_of_refusal NoSignal = NoSignal
image_of_refusal NoRef = NoRef

-- what a head is read as where it is printed
abbrev pub image_of_head : Head → Head
image_of_head (Send peer note answer) = Send peer (image_of_note note) answer
image_of_head (Hunt path note) = Hunt path (image_of_note note)
image_of_head (Attach peer note) = Attach peer (image_of_note note)
image_of_head (Refused reason) = Refused (image_of_refusal reason)
image_of_head head = head

-- what an effect is read as
abbrev pub image_of_effect : Effect → Effect
image_of_effect (Arrived inc peer note) = Arrived inc peer (image_of_note note)
image_of_effect (Found inc peer note hunt) = Found inc peer (image_of_note note) hunt
image_of_effect (Notified inc peer note reference reason) =
    Notified inc peer (image_of_note note) reference reason
image_of_effect effect = effect

-- what a line is read as: long data are what stands for them, and a refusal has no numbers
abbrev pub image_of_line : Line → Line
image_of_line (Made position by head) = Made position by (image_of_head head)
image_of_line (Happened effect) = Happened (image_of_effect effect)

-- the image of a line is printed as the line is
abbrev pub ImagesArePrinted : Type 0
ImagesArePrinted =
    (names : Names) (line : Line)
    → line_words printed names (image_of_line line) ≡ line_words sha256 names line
