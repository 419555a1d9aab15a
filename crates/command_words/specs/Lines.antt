-- A line on standard error, and what it shows of what a user wrote.
use Rattle.std.specs.Prelude.{ℕ, ◌&&◌, List, ◌++◌, codes, flat_map, map, nat_le, take}
use Rattle.std.specs.Prelude.{if◌then◌else◌}
use Rattle.command_words.specs.Words.{said_of}
use Rattle.command_words.specs.declared.word.Word.{Word}

-- the most bytes of a line
abbrev pub line_most : ℕ
line_most = 512

-- the most bytes of a word's name and the space before it
abbrev pub name_most : ℕ
name_most = 16

-- a byte where it is a printable character of ASCII (32 to 126), else `?` (63)
abbrev pub printable : ℕ → ℕ
printable byte = if nat_le 32 byte && nat_le byte 126 then byte else 63

-- WHAT IS SHOWN of what a user wrote: its first 64 bytes, made printable
abbrev pub shown : List ℕ → List ℕ
shown word = map printable (take 64 word)

-- the names of words, each behind a space
abbrev pub named_list : List Word → List ℕ
named_list words = flat_map (λ word. codes " " ++ (said_of word).name) words
