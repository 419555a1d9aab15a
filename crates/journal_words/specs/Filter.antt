-- Words as filters.
use Rattle.std.specs.Prelude.{ℕ, Option, Some, None, List, [], ◌∷◌, codes, if◌then◌else◌}
use Rattle.std.specs.Str.{bytes_eq}
use Rattle.sigsel.specs.declared.sigsel.Sigsel.{Sigsel}
use Rattle.sigsel.specs.declared.sigsel.Sigsel.TheVariants.{Any, Only, Not}
use Rattle.text_words.specs.Gives.{◌>>=◌, made}
use Rattle.text_words.specs.Words.{cut_at, parts_at}
use Rattle.text_words.specs.Numbers.{u32_in}

-- the words as numbers
abbrev pub numbers_of : List (List ℕ) → Option (List ℕ)
numbers_of [] = Some []
numbers_of (word ∷ words) = do
  n ← u32_in word
  numbers ← numbers_of words
  Some (n ∷ numbers)

-- numbers with a comma between each two, or none
unfoldable pub listed_in : List ℕ → Option (List ℕ)
listed_in [] = Some []
listed_in (b ∷ word) = numbers_of (parts_at 44 (b ∷ word))

-- the filter of a kind and of what it lists
abbrev pub filter_by : List ℕ × List ℕ → Option Sigsel
filter_by parts =
    if bytes_eq parts.0 (codes "only") then made Only (listed_in parts.1)
    else if bytes_eq parts.0 (codes "not") then made Not (listed_in parts.1)
    else None

-- the filter that a word spells
unfoldable pub filter_in : List ℕ → Option Sigsel
filter_in word =
    if bytes_eq word (codes "any") then Some Any else cut_at 58 word >>= filter_by
