-- The lines of a text that the rows of its chart are of.
use Rattle.std.specs.Prelude.{ℕ, ◌==◌, Bool, false, List, [], ◌∷◌, ◌++◌, codes, is_some}
use Rattle.std.specs.Prelude.{Option, Some, None, if◌then◌else◌}
use Rattle.text_words.specs.Words.{after, cut_at, lines_of}
use Rattle.journal_charts.specs.declared.rows.Rows.{Rows}

-- a line announces the steps
abbrev pub is_heading : List ℕ → Bool
is_heading line = is_some (after (codes "journal ") line)

-- what of a line stands behind its first space; the whole line where it has none
abbrev pub words_if : List ℕ → Option (List ℕ × List ℕ) → List ℕ
words_if line None = line
words_if line (Some parts) = parts.1

-- what of a line stands beside its row: all of an effect's, and of a step's what is behind its
-- position
abbrev pub row_words : List ℕ → List ℕ
row_words [] = words_if [] (cut_at 32 [])
row_words (b ∷ line) = if b == 43 then b ∷ line else words_if (b ∷ line) (cut_at 32 (b ∷ line))

-- no line is read
abbrev pub no_rows : Rows
no_rows = record { begun = false; words = [] }

-- the rows with a line more: a row, once the steps are announced
abbrev pub rows_and : Rows → List ℕ → Rows
rows_and rows line =
    if rows.begun then record rows { words = rows.words ++ row_words line ∷ [] }
    else record rows { begun = is_heading line }

-- the rows with those of lines
abbrev pub rows_with : Rows → List (List ℕ) → Rows
rows_with rows [] = rows
rows_with rows (line ∷ lines) = rows_with (rows_and rows line) lines

-- THE WORDS OF THE ROWS OF A TEXT: of all lines behind the first that announces the steps
abbrev pub rows_in : List ℕ → List (List ℕ)
rows_in text = (rows_with no_rows (lines_of text)).words
