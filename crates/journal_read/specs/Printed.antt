-- What is read of the text of a journal.
use Rattle.std.specs.Prelude.{◌≡◌, ℕ, suc, ◌≤◌, List, [], ◌∷◌, length, map, Ok}
use Rattle.std.specs.List.{AllByRecursion}
use Rattle.sha2.specs.Sha256.{sha256}
use Rattle.linx_base.specs.declared.name.Names.{Names}
use Rattle.journal.specs.declared.effect.Step.{Step}
use Rattle.journal.specs.Logs.{Log}
use Rattle.journal_text.specs.Text.{text_of}
use Rattle.journal_words.specs.declared.lines.Line.{Line}
use Rattle.text_words.specs.Numbers.{whole_limit}
use Rattle.reading_laws.specs.Fits.{FitsHead, FitsEffect}
use Rattle.reading_laws.specs.Forms.{AreNames, IsMaker}
use Rattle.reading_laws.specs.Images.{image_of_head, image_of_effect}
use Rattle.reading_laws.specs.Spelled.{line_of, line_words}
use Rattle.journal_read.specs.Reading.{read_in}
use Rattle.journal_read.specs.Spelled.{lines_of_steps}

-- what a printed step is read as: the same, with what stands for long data in their place, and
-- without the step and the endpoint of a refusal
abbrev pub read_step : Step → Step
read_step s = record {
  by = s.by;
  head = image_of_head s.head;
  effects = map image_of_effect s.effects;
}

-- a step of a run, at its position
pub record FitsStep (names : Names) (position : ℕ) (s : Step) : Type 0 where
  pub placed : position ≤ whole_limit
  pub maker : IsMaker s.by
  pub head : FitsHead names s.head
  pub effects : AllByRecursion (FitsEffect names) s.effects

-- the steps are such as a run has, with numbers that fit what is printed of them
abbrev pub AllFit : Names → List Step → Type 0
AllFit names [] = Unit {0}
AllFit names (s ∷ P) = AllFit names P × FitsStep names (suc (length P)) s

-- the bytes of a line that is printed
abbrev pub printed_line : Names → Line → List ℕ
printed_line names line = line_of (line_words sha256 names line)

-- the lines that are printed of steps
abbrev pub printed_lines : Names → List Step → List (List ℕ)
printed_lines names P = map (printed_line names) (lines_of_steps P)

-- what is read of the text of a run, legal or not, are its steps, each as it is read
abbrev pub PrintedIsRead : Type 0
PrintedIsRead = (log : Log) → AreNames log.names → AllFit log.names log.steps
    → read_in log.names (text_of log) ≡ Ok (map read_step log.steps)
