-- The word that is nearest to a text.
use Rattle.std.specs.Prelude.{ℕ, List, [], ◌∷◌, length, nat_eq, nat_lt, Option, Some, None}
use Rattle.std.specs.Prelude.{if◌then◌else◌}
use Rattle.std.specs.Str.{chars}
use Rattle.strsim.specs.Edits.{levenshtein_row}
use Rattle.command_words.specs.Words.{all_words, said_of}
use Rattle.command_words.specs.declared.word.Word.{Word}

-- how many edits of a character make one text of another: one is put in, taken out or changed
abbrev pub edits : List ℕ → List ℕ → ℕ
edits from to = levenshtein_row nat_eq (chars from) (chars to) (length (chars to))

-- the best word so far, or the first of these words that fewer edits than all before make of the text
abbrev pub nearest_from : Option Word → ℕ → List ℕ → List Word → Option Word
nearest_from best limit text [] = best
nearest_from best limit text (word ∷ words) =
    if nat_lt (edits text (said_of word).name) limit
    then nearest_from (Some word) (edits text (said_of word).name) text words
    else nearest_from best limit text words

-- THE NEAREST WORD to a text: the first of those that the fewest edits make of it, and at most two
unfoldable pub nearest_of : List ℕ → Option Word
nearest_of text = nearest_from None 3 text all_words
