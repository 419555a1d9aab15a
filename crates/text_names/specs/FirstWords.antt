-- The first words of a line.
use Rattle.std.specs.Prelude.{ℕ, List, Option, Some, None}
use Rattle.text_words.specs.Gives.{◌>>=◌}
use Rattle.text_words.specs.Words.{cut_at}

-- the first four words of a line
pub record Words : Type 0 where
  pub first : List ℕ
  pub second : List ℕ
  pub third : List ℕ
  pub fourth : List ℕ

-- what stands before the first space, if there is one, or all of it
abbrev pub front_of : List ℕ → Option (List ℕ × List ℕ) → List ℕ
front_of text None = text
front_of text (Some parts) = parts.0

-- what stands before the first space, or all of it
abbrev pub first_word : List ℕ → List ℕ
first_word text = front_of text (cut_at 32 text)

-- the first four words of a line, if it has so many
unfoldable pub first_words : List ℕ → Option Words
first_words line = do
  a ← cut_at 32 line
  b ← cut_at 32 a.1
  c ← cut_at 32 b.1
  Some (record { first = a.0; second = b.0; third = c.0; fourth = first_word c.1 })
