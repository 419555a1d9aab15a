-- The lines of a run: their numbers fit their types, their nodes and links have names, and their
-- data are bytes, at most as many as a signal has.
use Rattle.std.specs.Prelude.{ℕ, ◌<◌, ◌≤◌, get_or, length}
use Rattle.linx_base.specs.Content.{data_limit}
use Rattle.linx_base.specs.SigNotes.{SigNote}
use Rattle.linx_base.specs.declared.name.Names.{Names}
use Rattle.journal.specs.declared.head.Head.{Head}
use Rattle.journal.specs.declared.head.Head.TheVariants.{Send, Hunt, Attach, Refused}
use Rattle.journal.specs.declared.effect.Effect.{Effect}
use Rattle.journal.specs.declared.effect.Effect.TheVariants.{Arrived, Found, Notified}
use Rattle.journal_words.specs.declared.lines.Line.{Line}
use Rattle.journal_words.specs.declared.lines.Line.TheVariants.{Made, Happened}
use Rattle.text_words.specs.Numbers.{half_limit, whole_limit}
use Rattle.reading_laws.specs.Forms.{IsEffect, IsHead, IsLine, IsMaker, IsPath, IsPeer}
use Rattle.reading_laws.specs.Images.{image_of_line}

-- a signal is such as a run has: its number and its data are within their bounds
pub record FitsNote (note : SigNote) : Type 0 where
  pub number : note.number ≤ half_limit
  pub are_bytes : (i : ℕ) → get_or note.bytes i 0 < 256
  pub short : length note.bytes ≤ data_limit

-- a head of a run: the numbers of a refusal aren't printed, and may be any
abbrev pub FitsHead : Names → Head → Type 0
FitsHead names (Send peer note answer) = IsPeer names peer × FitsNote note
FitsHead names (Hunt path note) = IsPath names path × FitsNote note
FitsHead names (Attach peer note) = IsPeer names peer × FitsNote note
FitsHead names (Refused reason) = Unit {0}
FitsHead names head = IsHead names head

-- an effect is such as a run has: its numbers fit, and its signal too
abbrev pub FitsEffect : Names → Effect → Type 0
FitsEffect names (Arrived inc peer note) =
    (inc.0 ≤ whole_limit) × IsPeer names peer × FitsNote note
FitsEffect names (Found inc peer note hunt) =
    (inc.0 ≤ whole_limit) × IsPeer names peer × FitsNote note × (hunt ≤ whole_limit)
FitsEffect names (Notified inc peer note reference reason) =
    (inc.0 ≤ whole_limit) × IsPeer names peer × FitsNote note × (reference.0 ≤ whole_limit)
FitsEffect names effect = IsEffect names effect

-- a line is such as a run has: its numbers fit, and what it says too
abbrev pub FitsLine : Names → Line → Type 0
FitsLine names (Made position by head) =
    (position ≤ whole_limit) × IsMaker by × FitsHead names head
FitsLine names (Happened effect) = FitsEffect names effect

-- the image of a line of a run is one that its words show whole
abbrev pub ImagesAreLines : Type 0
ImagesAreLines = (names : Names) (line : Line) → FitsLine names line
    → IsLine names (image_of_line line)
