-- THE MAKERS THAT A TEXT LISTS: `A3` is actor 3, `P1` the pump of link 1, and `A3,P1` both.
use Rattle.std.specs.Prelude.{ℕ, Bool, ◌==◌, List, [], ◌∷◌, nat_le, Option, Some, None, is_some}
use Rattle.std.specs.Prelude.{option_map, option_and_then, if◌then◌else◌}
use Rattle.std.specs.List.{filter_map, list_all, slice_split}
use Rattle.script_words.specs.Numbers.{number_spelled}
use Rattle.journal.specs.declared.by.By.{By}
use Rattle.journal.specs.declared.by.By.TheVariants.{Actor, Pump}

-- what stands behind a text's first byte, where it is this letter
abbrev pub behind : ℕ → List ℕ → Option (List ℕ)
behind letter [] = None
behind letter (byte ∷ bytes) = if byte == letter then Some bytes else None

-- actors and links are counted from 1
abbrev pub from_one : ℕ → Option ℕ
from_one n = if nat_le 1 n then Some n else None

-- the number of an actor or of a link
abbrev pub maker_number : List ℕ → Option ℕ
maker_number digits = option_and_then from_one (number_spelled digits)

-- a link's pump, by what stands behind `P`
abbrev pub pump_spelled : Option (List ℕ) → Option By
pump_spelled None = None
pump_spelled (Some digits) = option_map (λ n. Pump (record { 0 = n })) (maker_number digits)

-- an actor, by what stands behind `A`; or else a link's pump
abbrev pub actor_or_pump : Option (List ℕ) → Option (List ℕ) → Option By
actor_or_pump (Some digits) pump = option_map Actor (maker_number digits)
actor_or_pump None pump = pump_spelled pump

-- the maker that a word spells: by `A` (65) and an actor's number, or by `P` (80) and a link's
unfoldable pub maker_spelled : List ℕ → Option By
maker_spelled word = actor_or_pump (behind 65 word) (behind 80 word)

-- the words of a list: what stands between its commas (44), of which there is at least one
abbrev pub listed : List ℕ → List (List ℕ)
listed text = slice_split (λ b. b == 44) text

-- each word of the text spells a maker
unfoldable pub are_makers : List ℕ → Bool
are_makers text = list_all (λ word. is_some (maker_spelled word)) (listed text)

-- THE MAKERS THAT A TEXT LISTS, in its order; none where a word of it spells no maker
unfoldable pub makers_spelled : List ℕ → Option (List By)
makers_spelled text =
    if are_makers text then Some (filter_map maker_spelled (listed text)) else None
