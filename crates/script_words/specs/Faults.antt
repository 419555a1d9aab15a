-- What is wrong with a line, and the word that it is about.
use Rattle.std.specs.Prelude.{ℕ, List, take}
use Rattle.script_words.specs.declared.bad_kind.BadKind.{BadKind}
use Rattle.script_words.specs.declared.bad_kind.BadKind.TheVariants.{BadShape, UnknownWord}
use Rattle.script_words.specs.declared.fault.Fault.{Fault}

-- the most bytes of a word that are told
abbrev pub word_limit : ℕ
word_limit = 64

-- a kind of bad line, about this word
abbrev pub bad : BadKind → List ℕ → Fault
bad kind word = record { kind = kind; word = take word_limit word }

-- the word isn't as the statement needs it
abbrev pub bad_shape : List ℕ → Fault
bad_shape word = bad BadShape word

-- the word begins no statement
abbrev pub unknown_word : List ℕ → Fault
unknown_word word = bad UnknownWord word
