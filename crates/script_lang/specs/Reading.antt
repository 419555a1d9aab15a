-- A script, line by line. The kinds of a bad line are tried in the order of their table:
-- ScriptTooLong by `lined`, LineTooLong and BadByte by `words_in`, UnknownWord and BadShape by the
-- readings of words, then UnknownName, TwiceNamed and OverLimit by what a statement does to the
-- script, and Unfinished by `finished`.
use Rattle.std.specs.Prelude.{ℕ, ◌+◌, ◌≡◌, nat_lt, Result, Ok, Err, List, [], ◌∷◌, length}
use Rattle.std.specs.Prelude.{if◌then◌else◌}
use Rattle.script_words.specs.declared.fault.Fault.{Fault}
use Rattle.script_words.specs.declared.bad_kind.BadKind.TheVariants.{ScriptTooLong, Unfinished}
use Rattle.script_words.specs.declared.line_error.LineError.{LineError}
use Rattle.script_words.specs.declared.line_error.LineError.TheVariants as lines
use Rattle.script_words.specs.Faults.{bad}
use Rattle.script_words.specs.Gives.{◌>>=◌}
use Rattle.script_lang.specs.Limits.{script_limit}
use Rattle.script_words.specs.Lines.{lines_of, words_in}
use Rattle.script_words.specs.Declaration.{declaration_of}
use Rattle.script_words.specs.BlockLine.{actor_line_of, repeat_line_of}
use Rattle.script_lang.specs.declared.reading.Place.{Place}
use Rattle.script_lang.specs.declared.reading.Place.TheVariants.{Outside, InActor, InRepeat}
use Rattle.script_lang.specs.declared.reading.Reading.{Reading}
use Rattle.script_lang.specs.declared.script_error.ScriptError.{ScriptError}
use Rattle.script_lang.specs.declared.script_error.ScriptError.TheVariants.{Bad, NoMemory}
use Rattle.script_lang.specs.Parts.{ScriptParts, empty_script}
use Rattle.script_lang.specs.Declaring.{declared}
use Rattle.script_lang.specs.Block.{in_actor, in_repeat}

-- ---- each line

-- a line's first word and the words behind it, at its place
abbrev pub stated : ScriptParts → List (List ℕ) → Place → List ℕ → List (List ℕ)
    → Result Reading Fault
stated s actors Outside first words = declaration_of first words >>= declared s actors
stated s actors (InActor a) first words = actor_line_of first words >>= in_actor s actors a
stated s actors (InRepeat a times commands) first words =
    repeat_line_of first words >>= in_repeat s actors a times commands

-- the words of a line; a line without words means nothing
unfoldable pub worded : Reading → List (List ℕ) → Result Reading Fault
worded r [] = Ok r
worded r (first ∷ words) = stated r.script r.actors r.place first words

-- a line behind so many bytes
unfoldable pub lined : Reading → ℕ → List ℕ → Result Reading Fault
lined r before line =
    if nat_lt script_limit (before + length line) then Err (bad ScriptTooLong [])
    else words_in line >>= worded r

-- ---- the whole

-- the script at the end of the lines, or a block that isn't ended
abbrev pub finished : ScriptParts → Place → ℕ → Result ScriptParts (ℕ × Fault)
finished s Outside line = Ok s
finished s (InActor a) line = Err (line, bad Unfinished [])
finished s (InRepeat a times commands) line = Err (line, bad Unfinished [])

-- goes on behind a good line, or stays at the bad one
abbrev pub behind : Result Reading Fault → ℕ
    → (Reading → Result ScriptParts (ℕ × Fault)) → Result ScriptParts (ℕ × Fault)
behind (Ok r) line next = next r
behind (Err fault) line next = Err (line, fault)

-- the script of the lines that follow, behind so many bytes and lines
unfoldable pub read_from : Reading → ℕ → ℕ → List (List ℕ) → Result ScriptParts (ℕ × Fault)
read_from r before line [] = finished r.script r.place line
read_from r before line (next ∷ rest) =
    behind (lined r before next) (line + 1)
    (λ s. read_from s (before + length next) (line + 1) rest)

-- nothing is read
abbrev pub nothing_read : Reading
nothing_read = record { script = empty_script; actors = []; place = Outside }

-- the script that the bytes spell, or the first bad line with the first kind that holds for it and
-- the word that it is about
unfoldable pub script_of : List ℕ → Result ScriptParts (ℕ × Fault)
script_of bytes = read_from nothing_read 0 0 (lines_of bytes)

-- a line's fault as an error
abbrev pub error_in : LineError → ℕ → ScriptError
error_in (lines.Bad fault) line = Bad line fault
error_in lines.NoMemory line = NoMemory

-- the error is the bad line, unless memory ran out
abbrev pub IsBadOf : Result ScriptParts (ℕ × Fault) → ScriptError → Type 0
IsBadOf reading (Bad line fault) = reading ≡ Err (line, fault)
IsBadOf reading NoMemory = Unit {0}
