-- The names whose numbers the lines of a text tell.
use Rattle.std.specs.Prelude.{ℕ, Bool, not, ◌&&◌, ◌||◌, ◌==◌, nat_le, List, [], ◌∷◌, ◌++◌, Option}
use Rattle.std.specs.Prelude.{Some, None, if◌then◌else◌}
use Rattle.std.specs.List.{list_any}
use Rattle.std.specs.Str.{bytes_eq}
use Rattle.linx_base.specs.NameText.{is_name}
use Rattle.text_names.specs.declared.told_names.Numbered.{Numbered}
use Rattle.text_names.specs.declared.told_names.Told.{Told}
use Rattle.text_names.specs.FirstWords.{Words, first_words}
use Rattle.text_names.specs.Naming.{node_told, link_told}

-- a name has this number
abbrev pub has_number : ℕ → List Numbered → Bool
has_number number told = list_any (λ t. t.number == number) told

-- a number is told of this name
abbrev pub has_told : List ℕ → List Numbered → Bool
has_told word told = list_any (λ t. bytes_eq t.name word) told

-- the number is one that a line can tell
abbrev pub fits_number : ℕ → Bool
fits_number number = nat_le 1 number && nat_le number 64

-- the names with a further one, of this number: unless the number is told already or out of bounds,
-- or it is no name
unfoldable pub with_told : List Numbered → ℕ → List ℕ → List Numbered
with_told told number word =
    if not (fits_number number) || has_number number told then told
    else if is_name word then told ++ record { number = number; name = word } ∷ []
    else told

-- the names with a further one, of the number that was read, if one was
abbrev pub with_if_told : List Numbered → Option ℕ → List ℕ → List Numbered
with_if_told told (Some number) word = with_told told number word
with_if_told told None word = told

-- no name, so far
abbrev pub nothing_told : Told
nothing_told = record { nodes = []; links = [] }

-- the names with those of a line of these first words: its fourth word has the number that it tells
abbrev pub told_words : Told → Words → Told
told_words told words = record {
  nodes = with_if_told told.nodes (node_told words) words.fourth;
  links = with_if_told told.links (link_told words) words.fourth;
}

-- the names with those that a line tells, where it has so many words
abbrev pub told_front : Told → Option Words → Told
told_front told None = told
told_front told (Some words) = told_words told words

-- the names with those of a line
abbrev pub told_line : Told → List ℕ → Told
told_line told line = told_front told (first_words line)

-- the names with those of lines
abbrev pub told_lines : Told → List (List ℕ) → Told
told_lines told [] = told
told_lines told (line ∷ lines) = told_lines (told_line told line) lines
