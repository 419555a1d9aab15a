use Rattle.std.specs.Prelude.{ℕ, Bool, false, not, ◌&&◌, ◌||◌, ◌==◌, nat_le, nat_lt, Result, Ok}
use Rattle.std.specs.Prelude.{Err, List, [], ◌∷◌, length, filter, take_while, if◌then◌else◌}
use Rattle.std.specs.List.{list_all, onto_first, slice_split}
use Rattle.std.specs.Io.BufRead.{strip_last}
use Rattle.script_words.specs.declared.fault.Fault.{Fault}
use Rattle.script_words.specs.declared.bad_kind.BadKind.TheVariants.{LineTooLong, BadByte}
use Rattle.script_words.specs.Faults.{bad}
use Rattle.script_words.specs.Limits.{line_limit}

-- the lines of a text, each with its line feed where it has one
abbrev pub lines_of : List ℕ → List (List ℕ)
lines_of [] = []
lines_of (b ∷ bs) = if b == 10 then (b ∷ []) ∷ lines_of bs else onto_first b (lines_of bs)

-- a space or a tab
abbrev pub is_space : ℕ → Bool
is_space b = (b == 32) || (b == 9)

-- a printable byte or a tab
abbrev pub is_plain : ℕ → Bool
is_plain b = (nat_le 32 b && nat_le b 126) || (b == 9)

-- the word begins a comment
abbrev pub is_comment : List ℕ → Bool
is_comment [] = false
is_comment (b ∷ bs) = b == 35

-- the words of a text: what stands between spaces, up to a comment
unfoldable pub words_of : List ℕ → List (List ℕ)
words_of text =
    take_while (λ word. not (is_comment word))
    (filter (λ word. not (length word == 0)) (slice_split is_space text))

-- the words of a text, without the carriage return at its end
abbrev pub words_in_text : List ℕ → Result (List (List ℕ)) Fault
words_in_text text =
    if nat_lt line_limit (length text) then Err (bad LineTooLong [])
    else if list_all is_plain (strip_last 13 text) then Ok (words_of (strip_last 13 text))
    else Err (bad BadByte [])

-- the words of a line, without the line feed at its end
unfoldable pub words_in : List ℕ → Result (List (List ℕ)) Fault
words_in line = words_in_text (strip_last 10 line)
