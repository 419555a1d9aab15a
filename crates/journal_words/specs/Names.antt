-- Words as names, and as the numbers of what they name.
use Rattle.std.specs.Prelude.{ℕ, ◌+◌, nat_lt, Option, Some, None, List, position, if◌then◌else◌}
use Rattle.std.specs.Str.{bytes_eq}
use Rattle.linx_base.specs.NameText.{is_name}
use Rattle.text_words.specs.Gives.{◌>>=◌}
use Rattle.text_words.specs.Numbers.{half_limit}

-- the word as a name
abbrev pub name_in : List ℕ → Option (List ℕ)
name_in word = if is_name word then Some word else None

-- a number from 1 for a place from 0, if it fits 32 bits
abbrev pub numbered : ℕ → Option ℕ
numbered place = if nat_lt place half_limit then Some (place + 1) else None

-- the number, from 1, of the first of these names that the word is
unfoldable pub named_in : List (List ℕ) → List ℕ → Option ℕ
named_in names word = position (λ name. bytes_eq name word) names >>= numbered
