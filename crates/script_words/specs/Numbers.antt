-- words as numbers
use Rattle.std.specs.Prelude.{ℕ, ◌+◌, ◌-◌, ◌*◌, Bool, ◌&&◌, nat_le, Option, Some, None, Result, Ok}
use Rattle.std.specs.Prelude.{Err, List, [], ◌∷◌, length, fold, if◌then◌else◌}
use Rattle.std.specs.Char.{is_ascii_digit}
use Rattle.std.specs.List.{list_all}
use Rattle.script_words.specs.declared.fault.Fault.{Fault}
use Rattle.script_words.specs.Faults.{bad_shape}
use Rattle.script_words.specs.Limits.{digit_limit, number_limit}
use Rattle.script_words.specs.Words.{each_of}

-- the number that decimal digits spell
abbrev pub decimal_of : List ℕ → ℕ
decimal_of digits = fold (λ n d. n * 10 + (d - 48)) 0 digits

-- a few decimal digits, whose number is in the range of all numbers
abbrev pub is_number : List ℕ → Bool
is_number word =
    nat_le 1 (length word) && nat_le (length word) digit_limit && list_all is_ascii_digit word
    && nat_le (decimal_of word) number_limit

-- the number that a word spells
unfoldable pub number_spelled : List ℕ → Option ℕ
number_spelled word = if is_number word then Some (decimal_of word) else None

-- the number is in the range
abbrev pub is_within : ℕ → ℕ → ℕ → Bool
is_within low high n = nat_le low n && nat_le n high

-- the number that was spelled in the word, if there is one and it is in the range
abbrev pub in_range : List ℕ → ℕ → ℕ → Option ℕ → Result ℕ Fault
in_range word low high None = Err (bad_shape word)
in_range word low high (Some n) = if is_within low high n then Ok n else Err (bad_shape word)

-- the number of a part of the word, in a range
abbrev pub number_in : List ℕ → List ℕ → ℕ → ℕ → Result ℕ Fault
number_in word part low high = in_range word low high (number_spelled part)

-- the word as a number in a range
abbrev pub within : ℕ → ℕ → List ℕ → Result ℕ Fault
within low high word = number_in word word low high

-- the word as a number
abbrev pub any_number : List ℕ → Result ℕ Fault
any_number word = within 0 number_limit word

-- the first word's number and the words behind it, or the number that stands unsaid and all words
abbrev pub number_before : ℕ → List (List ℕ) → List (List ℕ) → Option ℕ → ℕ × List (List ℕ)
number_before unsaid words rest (Some n) = (n, rest)
number_before unsaid words rest None = (unsaid, words)

-- a number, where the first word is one, and the words behind it
abbrev pub number_or : ℕ → List (List ℕ) → ℕ × List (List ℕ)
number_or unsaid [] = (unsaid, [])
number_or unsaid (word ∷ words) = number_before unsaid (word ∷ words) words (number_spelled word)

-- the words as numbers
abbrev pub numbers_of : List (List ℕ) → Result (List ℕ) Fault
numbers_of words = each_of any_number words
