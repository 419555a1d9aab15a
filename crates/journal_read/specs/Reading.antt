-- A printed text, read line by line: the steps that it spells, or its first bad line.
use Rattle.std.specs.Prelude.{ℕ, suc, Bool, ◌==◌, nat_le, nat_lt, ◌++◌, List, [], ◌∷◌, length}
use Rattle.std.specs.Prelude.{codes, Option, Some, None, Result, Ok, Err, if◌then◌else◌}
use Rattle.linx_base.specs.declared.name.Names.{Names}
use Rattle.journal.specs.declared.effect.Step.{Step}
use Rattle.journal_words.specs.declared.lines.Line.{Line}
use Rattle.journal_words.specs.declared.lines.Line.TheVariants.{Made, Happened}
use Rattle.journal_words.specs.Lines.{line_in}
use Rattle.text_words.specs.Gives.{◌>>=◌}
use Rattle.text_words.specs.Numbers.{u64_in}
use Rattle.text_words.specs.Words.{after, lines_of, rest_of}

-- the steps P, the newest first, with a line more: a new step at the next position, or an effect
-- behind those of the newest step
abbrev pub put_line : List Step → Line → Option (List Step)
put_line P (Made position by head) =
    if position == suc (length P) then Some (record { by = by; head = head; effects = [] } ∷ P)
    else None
put_line [] (Happened effect) = None
put_line (s ∷ P) (Happened effect) =
    Some (record s { effects = s.effects ++ effect ∷ [] } ∷ P)

-- the steps P with the line that these bytes are
unfoldable pub put_bytes : Names → List Step → List ℕ → Option (List Step)
put_bytes names P bytes = line_in names bytes >>= put_line P

-- the steps P with lines more
abbrev pub steps_in : Names → List Step → List (List ℕ) → Option (List Step)
steps_in names P [] = Some P
steps_in names P (bytes ∷ lines) = do
  Q ← put_bytes names P bytes
  steps_in names Q lines

-- how far a text was read: how many steps it announces, once it has, and the steps so far
pub record SoFar : Type 0 where
  pub names : Names
  pub announced : Option ℕ
  pub steps : List Step

-- nothing was read
abbrev pub unread : Names → SoFar
unread names = record { names = names; announced = None; steps = [] }

-- what stands before the number of steps
abbrev pub heading : List ℕ
heading = codes "journal "

-- steps are announced: one at least
abbrev pub announce : SoFar → ℕ → Option SoFar
announce r n = if nat_lt 0 n then Some (record r { announced = Some n }) else None

-- a line before the steps: the one that announces them, or one of a log
abbrev pub take_front : SoFar → Option (List ℕ) → Option SoFar
take_front r None = Some r
take_front r (Some digits) = u64_in digits >>= announce r

-- steps, no more than are announced
abbrev pub take_steps : SoFar → ℕ → List Step → Option SoFar
take_steps r n P = if nat_le (length P) n then Some (record r { steps = P }) else None

-- the line of a step, where so many steps are announced
abbrev pub take_bytes : SoFar → ℕ → List ℕ → Option SoFar
take_bytes r n bytes = put_bytes r.names r.steps bytes >>= take_steps r n

-- a line behind those that were read, where more steps may be announced, or so many are
abbrev pub take_by : SoFar → Option ℕ → List ℕ → Option SoFar
take_by r None bytes = take_front r (after heading bytes)
take_by r (Some n) bytes = take_bytes r n bytes

-- a line behind those that were read
unfoldable pub take_line : SoFar → List ℕ → Option SoFar
take_line r bytes = take_by r r.announced bytes

-- the text may end before the line of this number: it has all steps that it announces, or no line
abbrev pub is_whole : Option ℕ → List Step → ℕ → Bool
is_whole None P line = line == 1
is_whole (Some n) P line = length P == n

-- the steps of a text that ends before the line of this number, or that line, which it lacks
unfoldable pub ended : SoFar → ℕ → Result (List Step) ℕ
ended r line = if is_whole r.announced r.steps line then Ok r.steps else Err line

-- the steps of a text behind whose last line feed nothing stands; else the line of this number is
-- bad
abbrev pub ended_behind : List ℕ → SoFar → ℕ → Result (List Step) ℕ
ended_behind [] r line = ended r line
ended_behind (b ∷ bytes) r line = Err line

-- goes on with what the line of this number made, or it is bad
abbrev pub or_bad : ℕ → Option SoFar → (SoFar → Result (List Step) ℕ) → Result (List Step) ℕ
or_bad line (Some r) go_on = go_on r
or_bad line None go_on = Err line

-- the lines from this number on, and what stands behind the last one
abbrev pub read_lines : SoFar → ℕ → List (List ℕ) → List ℕ → Result (List Step) ℕ
read_lines r line [] rest = ended_behind rest r line
read_lines r line (bytes ∷ lines) rest =
    or_bad line (take_line r bytes) (λ q. read_lines q (suc line) lines rest)

-- the steps that a text spells, the newest first, or its first bad line, from 1
abbrev pub read_in : Names → List ℕ → Result (List Step) ℕ
read_in names text = read_lines (unread names) 1 (lines_of text) (rest_of text)
