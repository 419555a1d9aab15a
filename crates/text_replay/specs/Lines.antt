-- The first line in which a printed text is another than that of a run: of its steps, and only
-- where these are the same, of its logs.
use Rattle.std.specs.Prelude.{ℕ, suc, Bool, ◌+◌, List, [], ◌∷◌, codes, nat_eq, Option, Some, None}
use Rattle.std.specs.Prelude.{if◌then◌else◌}
use Rattle.std.specs.List.{starts_with}
use Rattle.std.specs.Str.{bytes_eq}
use Rattle.script_words.specs.Lines.{lines_of}

-- the line that announces the steps
abbrev pub is_heading : List ℕ → Bool
is_heading line = starts_with nat_eq line (codes "journal ")

-- the lines behind the heading
abbrev pub steps_behind : List (List ℕ) → List (List ℕ)
steps_behind [] = []
steps_behind (line ∷ lines) = if is_heading line then lines else steps_behind lines

-- the number of the first line behind the heading, of lines from this number on
abbrev pub number_behind : ℕ → List (List ℕ) → ℕ
number_behind n [] = n
number_behind n (line ∷ lines) = if is_heading line then suc n else number_behind (suc n) lines

-- the first of these lines, from this number on, that isn't the run's, or that one of both lacks
abbrev pub other_from : ℕ → List (List ℕ) → List (List ℕ) → Option ℕ
other_from n [] [] = None
other_from n (line ∷ lines) (other ∷ others) =
    if bytes_eq line other then other_from (suc n) lines others else Some n
other_from n _ _ = Some n

-- the first, or else the second
abbrev pub or_else : Option ℕ → Option ℕ → Option ℕ
or_else None second = second
or_else (Some n) second = Some n

-- the first line of a text that isn't the run's, among the steps, or else among all lines; or the
-- first that one of both lacks
abbrev pub other_in : List (List ℕ) → List (List ℕ) → Option ℕ
other_in lines others =
    or_else (other_from (number_behind 1 lines) (steps_behind lines) (steps_behind others))
    (other_from 1 lines others)

-- THE FIRST OTHER LINE of a text, from 1, beside that of a run; none where both are one
abbrev pub other_line : List ℕ → List ℕ → Option ℕ
other_line text run = other_in (lines_of text) (lines_of run)
