-- The texts of what is wrong with a line.
use Rattle.std.specs.Prelude.{List, [], ◌∷◌, ◌++◌, ℕ, Bool, nat_le, ◌&&◌, map, codes, if◌then◌else◌}
use Rattle.linx_base.specs.Failures.{no_memory_text}
use Rattle.script_words.specs.declared.bad_kind.BadKind.{BadKind}
use Rattle.script_words.specs.declared.bad_kind.BadKind.TheVariants.{ScriptTooLong, LineTooLong}
use Rattle.script_words.specs.declared.bad_kind.BadKind.TheVariants.{BadByte, UnknownWord, BadShape}
use Rattle.script_words.specs.declared.bad_kind.BadKind.TheVariants.{UnknownName, TwiceNamed}
use Rattle.script_words.specs.declared.bad_kind.BadKind.TheVariants.{OverLimit, Unfinished}
use Rattle.script_words.specs.declared.fault.Fault.{Fault}
use Rattle.script_words.specs.declared.line_error.LineError.{LineError}
use Rattle.script_words.specs.declared.line_error.LineError.TheVariants.{Bad, NoMemory}

-- what is wrong with a line
abbrev pub phrase_of : BadKind → List ℕ
phrase_of ScriptTooLong = codes "the script is longer than 1,048,576 bytes"
phrase_of LineTooLong = codes "the line is longer than 4,096 bytes"
phrase_of BadByte = codes "the line has a byte that is no printable character"
phrase_of UnknownWord = codes "no statement begins with this word here"
phrase_of BadShape = codes "a word is wrong, missing or one too many"
phrase_of UnknownName = codes "no node or link has this name here"
phrase_of TwiceNamed = codes "this name stands twice"
phrase_of OverLimit = codes "this is more than a script may have"
phrase_of Unfinished = codes "an `end` is missing behind this line"

-- a byte is a printable character
abbrev pub is_printable : ℕ → Bool
is_printable byte = nat_le 32 byte && nat_le byte 126

-- a printable byte, or `?` in place of another
abbrev pub shown_byte : ℕ → ℕ
shown_byte byte = if is_printable byte then byte else 63

-- a word as it is shown
abbrev pub shown : List ℕ → List ℕ
shown word = map shown_byte word

-- the word behind a colon, if there is one
abbrev pub about : List ℕ → List ℕ
about [] = []
about (b ∷ bs) = codes ": " ++ shown (b ∷ bs)

-- what is wrong with a line, and the word that it is about
abbrev pub reason_of : Fault → List ℕ
reason_of fault = phrase_of fault.kind ++ about fault.word

-- why a line wasn't taken
abbrev pub line_error_text : LineError → List ℕ
line_error_text (Bad fault) = reason_of fault
line_error_text NoMemory = no_memory_text
