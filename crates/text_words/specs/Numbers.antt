-- Words as numbers. A number has no zero in front.
use Rattle.std.specs.Prelude.{ℕ, ◌+◌, ◌-◌, ◌*◌, Bool, true, false, not, ◌&&◌, ◌||◌, ◌==◌, nat_le}
use Rattle.std.specs.Prelude.{Option, Some, None, List, [], ◌∷◌, length, fold, if◌then◌else◌}
use Rattle.std.specs.Char.{is_ascii_digit}
use Rattle.std.specs.List.{list_all}
use Rattle.linx_base.specs.Numbers.{number_of}
use Rattle.text_words.specs.Gives.{◌>>=◌}
use Rattle.text_words.specs.Words.{cut_at}

-- the number that decimal digits spell
abbrev pub decimal_of : List ℕ → ℕ
decimal_of digits = fold (λ n d. n * 10 + (d - 48)) 0 digits

-- the first digit is no zero, unless it is the only one
abbrev pub has_no_zero_in_front : List ℕ → Bool
has_no_zero_in_front [] = false
has_no_zero_in_front (d ∷ []) = true
has_no_zero_in_front (d ∷ e ∷ digits) = not (d == 48)

-- digits of a number, at most twenty
abbrev pub are_digits : List ℕ → Bool
are_digits word =
    has_no_zero_in_front word && nat_le (length word) 20 && list_all is_ascii_digit word

-- the number that a word spells, if it is at most this one
unfoldable pub number_in : ℕ → List ℕ → Option ℕ
number_in most word =
    if are_digits word && nat_le (decimal_of word) most then Some (decimal_of word) else None

-- the greatest number of 32 bits
abbrev pub half_limit : ℕ
half_limit = 4294967295

-- the greatest number of 64 bits
abbrev pub whole_limit : ℕ
whole_limit = 18446744073709551615

-- the word as a number of 32 bits
abbrev pub u32_in : List ℕ → Option ℕ
u32_in word = number_in half_limit word

-- the word as a number of 64 bits
abbrev pub u64_in : List ℕ → Option ℕ
u64_in word = number_in whole_limit word

-- two numbers with a dot between them, as one of 64 bits
abbrev pub halves_of : List ℕ × List ℕ → Option ℕ
halves_of parts = do
  high ← u32_in parts.0
  low ← u32_in parts.1
  Some (number_of high low)

-- the word as a number of 64 bits, spelled by its halves
unfoldable pub halves_in : List ℕ → Option ℕ
halves_in word = cut_at 46 word >>= halves_of
