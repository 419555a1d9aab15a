-- Where a text and a word are cut, and how many words stand behind the first one of a line.
use Rattle.std.specs.Prelude.{ℕ, ◌+◌, ◌==◌, Option, Some, None, option_map, List, [], ◌∷◌, length}
use Rattle.std.specs.Prelude.{take, drop, position, if◌then◌else◌}
use Rattle.std.specs.List.{slice_split}
use Rattle.std.specs.Str.{bytes_eq}

-- what stands before the first such byte, and what behind it
abbrev pub cut_at : ℕ → List ℕ → Option (List ℕ × List ℕ)
cut_at byte word =
    option_map (λ k. (take k word, drop (k + 1) word)) (position (λ b. b == byte) word)

-- the parts between such bytes
abbrev pub parts_at : ℕ → List ℕ → List (List ℕ)
parts_at byte text = slice_split (λ b. b == byte) text

-- the words of a line: what stands between its spaces
abbrev pub words_of : List ℕ → List (List ℕ)
words_of line = parts_at 32 line

-- all parts but the last
unfoldable pub but_last : List (List ℕ) → List (List ℕ)
but_last [] = []
but_last (part ∷ []) = []
but_last (part ∷ next ∷ parts) = part ∷ but_last (next ∷ parts)

-- the last part, which has no byte where there is none
unfoldable pub last_of : List (List ℕ) → List ℕ
last_of [] = []
last_of (part ∷ []) = part
last_of (part ∷ next ∷ parts) = last_of (next ∷ parts)

-- the lines of a text: what stands before each of its line feeds
abbrev pub lines_of : List ℕ → List (List ℕ)
lines_of text = but_last (parts_at 10 text)

-- what stands behind the last line feed of a text
abbrev pub rest_of : List ℕ → List ℕ
rest_of text = last_of (parts_at 10 text)

-- what follows this text at the word's front
abbrev pub after : List ℕ → List ℕ → Option (List ℕ)
after text word =
    if bytes_eq (take (length text) word) text then Some (drop (length text) word) else None

-- the word, where it is the only one
abbrev pub only : List (List ℕ) → Option (List ℕ)
only [] = None
only (word ∷ []) = Some word
only (word ∷ more ∷ words) = None

-- the value, where no words follow
abbrev pub alone : {A : Type 0} → List (List ℕ) → A → Option A
alone [] value = Some value
alone (word ∷ words) value = None
