-- Words as the data of a signal: what stands for data of which a digest alone is printed.
use Rattle.std.specs.Prelude.{ℕ, ◌-◌, ◌&&◌, ◌==◌, nat_le, nat_lt, Option, Some, None, Result, Ok}
use Rattle.std.specs.Prelude.{Err, List, [], ◌++◌, length, replicate, codes, if◌then◌else◌}
use Rattle.std.specs.Str.{bytes_eq}
use Rattle.hex.specs.Hex.{encode_lower, decode_of}
use Rattle.hex.specs.declared.error.FromHexError.{FromHexError}
use Rattle.linx_base.specs.Content.{data_limit}
use Rattle.linx_base.specs.SigNotes.{SigNote}
use Rattle.text_words.specs.Gives.{◌>>=◌}
use Rattle.text_words.specs.Words.{cut_at}
use Rattle.text_words.specs.Numbers.{number_in, u32_in}

-- the bytes of a digest, and the most data bytes that are spelled one by one
abbrev pub digest_size : ℕ
digest_size = 32

-- what stands for data of this size with this digest: the digest, and 255 up to the size. No reason
-- has the byte 255, so it is no notification's data
abbrev pub stand_in : List ℕ → ℕ → List ℕ
stand_in digest size = digest ++ replicate (size - length digest) 255

-- bytes, where their hexadecimal in lower case is the word
abbrev pub if_spelled : List ℕ → Result (List ℕ) FromHexError → Option (List ℕ)
if_spelled word (Ok bytes) = if bytes_eq (encode_lower bytes) word then Some bytes else None
if_spelled word (Err e) = None

-- the bytes, at most as many as a digest has, whose hexadecimal in lower case the word is
unfoldable pub hexadecimal_in : List ℕ → Option (List ℕ)
hexadecimal_in word =
    if nat_le (length word) 64 then if_spelled word (decode_of word) else None

-- bytes that are spelled one by one
abbrev pub if_some : List ℕ → Option (List ℕ)
if_some bytes = if nat_lt 0 (length bytes) then Some bytes else None

-- what stands for data of this size with this digest, where data so long has one
abbrev pub if_long : ℕ → List ℕ → Option (List ℕ)
if_long size digest =
    if nat_lt digest_size size && (length digest == digest_size) then Some (stand_in digest size)
    else None

-- the data that bytes spell, or for which a size and a digest stand
abbrev pub data_by : List ℕ → Option (List ℕ × List ℕ) → Option (List ℕ)
data_by word None = hexadecimal_in word >>= if_some
data_by word (Some parts) = do
  size ← number_in data_limit parts.0
  digest ← hexadecimal_in parts.1
  if_long size digest

-- the data that a word spells
unfoldable pub data_in : List ℕ → Option (List ℕ)
data_in word = if bytes_eq word (codes "-") then Some [] else data_by word (cut_at 58 word)

-- the signal of a number and data
unfoldable pub note_in : List ℕ → List ℕ → Option SigNote
note_in number word = do
  n ← u32_in number
  bytes ← data_in word
  Some (record { number = n; bytes = bytes })
