-- The lines of steps, and the text that they stand in.
use Rattle.std.specs.Prelude.{◌≡◌, ℕ, suc, ◌++◌, ◌==◌, not, true, List, [], ◌∷◌, length, map}
use Rattle.std.specs.Prelude.{decimal, None}
use Rattle.std.specs.List.{list_all}
use Rattle.std.specs.Result.{result_ok}
use Rattle.linx_base.specs.declared.name.Names.{Names}
use Rattle.journal.specs.declared.effect.Step.{Step}
use Rattle.journal_words.specs.declared.lines.Line.{Line}
use Rattle.journal_words.specs.declared.lines.Line.TheVariants.{Made, Happened}
use Rattle.reading_laws.specs.Forms.{printed, AreNames, IsLine}
use Rattle.reading_laws.specs.Laws.{ReadsExactly}
use Rattle.reading_laws.specs.Spelled.{line_of, line_words}
use Rattle.text_words.specs.Words.{after}
use Rattle.journal_read.specs.Reading.{steps_in, heading, read_in}

-- the lines of a step at a position
abbrev pub step_lines : ℕ → Step → List Line
step_lines position s = Made position s.by s.head ∷ map Happened s.effects

-- the lines of steps, in their order
abbrev pub lines_of_steps : List Step → List Line
lines_of_steps [] = []
lines_of_steps (s ∷ P) = lines_of_steps P ++ step_lines (suc (length P)) s

-- the bytes of lines, with what is printed of stand-ins
abbrev pub bytes_of : Names → Line → List ℕ
bytes_of names line = line_of (line_words printed names line)

-- each line shows what it says whole
abbrev pub AreLines : Names → List Line → Type 0
AreLines names [] = Unit {0}
AreLines names (line ∷ lines) = IsLine names line × AreLines names lines

-- the lines spell the steps, and show them whole
pub record SpellSteps (names : Names) (P : List Step) (lines : List (List ℕ)) : Type 0 where
  pub whole : AreLines names (lines_of_steps P)
  pub spelled : lines ≡ map (bytes_of names) (lines_of_steps P)

-- steps are read from the lines that spell them, and from no others
abbrev pub StepsAreRead : Type 0
StepsAreRead =
    (names : Names) → AreNames names → ReadsExactly (steps_in names []) (SpellSteps names)

-- lines, each with its line feed
abbrev pub text_of_lines : List (List ℕ) → List ℕ
text_of_lines [] = []
text_of_lines (line ∷ lines) = line ++ 10 ∷ text_of_lines lines

-- the line that announces so many steps
abbrev pub heading_line : ℕ → List ℕ
heading_line count = heading ++ decimal count

-- a line of a log, as far as it is looked at: it has no line feed, and announces no steps
pub record IsLogLine (line : List ℕ) : Type 0 where
  pub one_line : list_all (λ b. not (b == 10)) line ≡ true
  pub no_heading : after heading line ≡ None

-- lines of logs, as far as they are looked at
abbrev pub AreLogLines : List (List ℕ) → Type 0
AreLogLines [] = Unit {0}
AreLogLines (line ∷ lines) = IsLogLine line × AreLogLines lines

-- the text has lines of logs, the line that announces the steps, and the lines that spell them
pub record SpellsLines (names : Names) (P : List Step) (text : List ℕ) : Type 0 where
  pub logs : List (List ℕ)
  pub are_logs : AreLogLines logs
  pub whole : AreLines names (lines_of_steps P)
  pub spelled :
      text
      ≡ text_of_lines
      (logs ++ heading_line (length P) ∷ map (bytes_of names) (lines_of_steps P))

-- the text spells the steps: it has no byte where there are none
abbrev pub SpellsText : Names → List Step → List ℕ → Type 0
SpellsText names [] text = text ≡ []
SpellsText names (s ∷ P) text = SpellsLines names (s ∷ P) text

-- steps are read from the texts that spell them, and from no others
abbrev pub TextsAreRead : Type 0
TextsAreRead =
    (names : Names) → AreNames names
    → ReadsExactly (λ text. result_ok (read_in names text)) (SpellsText names)
