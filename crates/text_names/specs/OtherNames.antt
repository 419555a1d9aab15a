-- The names whose numbers no line of a text tells.
use Rattle.std.specs.Prelude.{ℕ, Bool, ◌||◌, nat_le, List, [], ◌∷◌, ◌++◌, length, Option, Some, None}
use Rattle.std.specs.Prelude.{if◌then◌else◌}
use Rattle.std.specs.List.{list_any}
use Rattle.std.specs.Str.{bytes_eq}
use Rattle.linx_base.specs.NameText.{is_name}
use Rattle.linx_base.specs.declared.name.Names.{Names}
use Rattle.text_names.specs.declared.told_names.Numbered.{Numbered}
use Rattle.text_names.specs.declared.told_names.Told.{Told}
use Rattle.text_names.specs.FirstWords.{Words, first_words}
use Rattle.text_names.specs.Naming.{node_named, link_named}
use Rattle.text_names.specs.ToldNames.{has_told}

-- the name is one of these
abbrev pub has_name : List ℕ → List (List ℕ) → Bool
has_name word names = list_any (λ name. bytes_eq name word) names

-- the names with a further one: unless its number is told, or it is one of them, or no name, or
-- they are as many as there can be
unfoldable pub with_other : List Numbered → List (List ℕ) → List ℕ → List (List ℕ)
with_other told others word =
    if nat_le 64 (length others) || has_told word told || has_name word others then others
    else if is_name word then others ++ word ∷ []
    else others

-- the names with a further one, if a line names one
abbrev pub with_if_named : List Numbered → List (List ℕ) → Option (List ℕ) → List (List ℕ)
with_if_named told others None = others
with_if_named told others (Some word) = with_other told others word

-- no name, so far
abbrev pub no_names : Names
no_names = record { nodes = []; links = [] }

-- the names with those of a line of these first words
abbrev pub other_words : Told → Names → Words → Names
other_words told others words = record {
  nodes = with_if_named told.nodes others.nodes (node_named words);
  links = with_if_named told.links others.links (link_named words);
}

-- the names with those of a line, where it has so many words
abbrev pub other_front : Told → Names → Option Words → Names
other_front told others None = others
other_front told others (Some words) = other_words told others words

-- the names with those of a line
abbrev pub other_line : Told → Names → List ℕ → Names
other_line told others line = other_front told others (first_words line)

-- the names with those of lines
abbrev pub other_lines : Told → Names → List (List ℕ) → Names
other_lines told others [] = others
other_lines told others (line ∷ lines) = other_lines told (other_line told others line) lines
