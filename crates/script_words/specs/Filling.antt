use Rattle.std.specs.Prelude.{ℕ, Bool, nat_le, Option, Some, None, Result, Ok, Err, List, [], ◌∷◌}
use Rattle.std.specs.Prelude.{length, take, drop, replicate, codes, if◌then◌else◌}
use Rattle.std.specs.Str.{bytes_eq}
use Rattle.hex.specs.declared.error.FromHexError.{FromHexError}
use Rattle.hex.specs.Hex.{decode_of, decode_sized}
use Rattle.script_words.specs.declared.fault.Fault.{Fault}
use Rattle.script_words.specs.Faults.{bad_shape}
use Rattle.script_words.specs.declared.filling.Filling.{Filling}
use Rattle.script_words.specs.declared.filling.Filling.TheVariants.{Bytes, Repeat}
use Rattle.script_words.specs.Gives.{◌>>=◌}
use Rattle.script_words.specs.Words.{cut_at}
use Rattle.script_words.specs.Limits.{number_limit}
use Rattle.script_words.specs.Numbers.{number_in}

-- the data bytes that a filling stands for
abbrev pub data_of : Filling → List ℕ
data_of (Bytes bytes) = bytes
data_of (Repeat count byte) = replicate count byte

-- at most so many data bytes
abbrev pub fits_data : ℕ → Filling → Bool
fits_data most bytes = nat_le (length (data_of bytes)) most

-- no data
abbrev pub no_data : Filling
no_data = Repeat 0 0

-- what follows this text at the word's front
abbrev pub after : List ℕ → List ℕ → Option (List ℕ)
after text word =
    if bytes_eq (take (length text) word) text then Some (drop (length text) word) else None

-- at least one byte in hexadecimal digits, which stand in the word
abbrev pub some_bytes : List ℕ → Result (List ℕ) FromHexError → Result Filling Fault
some_bytes word (Ok []) = Err (bad_shape word)
some_bytes word (Ok (b ∷ bs)) = Ok (Bytes (b ∷ bs))
some_bytes word (Err e) = Err (bad_shape word)

-- one byte in hexadecimal digits, which stand in the word
abbrev pub one_byte : List ℕ → Result (List ℕ) FromHexError → Result ℕ Fault
one_byte word (Ok []) = Err (bad_shape word)
one_byte word (Ok (b ∷ [])) = Ok b
one_byte word (Ok (b ∷ c ∷ bs)) = Err (bad_shape word)
one_byte word (Err e) = Err (bad_shape word)

-- `N:HH`, cut at its colon, which stands in the word
abbrev pub repeated_of : List ℕ → Option (List ℕ × List ℕ) → Result Filling Fault
repeated_of word None = Err (bad_shape word)
repeated_of word (Some parts) = do
  count ← number_in word parts.0 0 number_limit
  byte ← one_byte word (decode_sized parts.1 1)
  Ok (Repeat count byte)

-- what follows `hex:`, or else what follows `fill:`
abbrev pub filling_in : List ℕ → Option (List ℕ) → Option (List ℕ) → Result Filling Fault
filling_in word (Some digits) repeated = some_bytes word (decode_of digits)
filling_in word None (Some repeated) = repeated_of word (cut_at 58 repeated)
filling_in word None None = Err (bad_shape word)

-- the data that a word spells
unfoldable pub filling_of : List ℕ → Result Filling Fault
filling_of word = filling_in word (after (codes "hex:") word) (after (codes "fill:") word)

-- the data that the words spell, at most so many bytes; none where there are no words
abbrev pub data_in : ℕ → List (List ℕ) → Result Filling Fault
data_in most [] = Ok no_data
data_in most (word ∷ more ∷ words) = Err (bad_shape more)
data_in most (word ∷ []) = do
  bytes ← filling_of word
  if fits_data most bytes then Ok bytes else Err (bad_shape word)
