-- Where the script of an input ends, and its printed text begins.
use Rattle.std.specs.Prelude.{ℕ, Bool, ◌+◌, List, [], ◌∷◌, codes, length, take, drop, option_map}
use Rattle.std.specs.Prelude.{Option, Some, None, if◌then◌else◌}
use Rattle.std.specs.Str.{bytes_eq}
use Rattle.script_words.specs.Lines.{lines_of}

-- the line that stands between a script and a printed text
abbrev pub is_between : List ℕ → Bool
is_between line = bytes_eq line (codes "text\n")

-- how many bytes stand before the first of these lines that is this one, behind so many bytes
abbrev pub place_behind : ℕ → List (List ℕ) → Option ℕ
place_behind before [] = None
place_behind before (line ∷ lines) =
    if is_between line then Some before else place_behind (before + length line) lines

-- HOW MANY BYTES STAND BEFORE THE FIRST LINE `text`, where there is one
abbrev pub text_place : List ℕ → Option ℕ
text_place bytes = place_behind 0 (lines_of bytes)

-- the bytes before the line `text`; all of them where there is none
abbrev pub before_place : List ℕ → Option ℕ → List ℕ
before_place bytes None = bytes
before_place bytes (Some place) = take place bytes

-- the bytes behind the line that begins at that place, which has five
abbrev pub behind_place : List ℕ → Option ℕ → Option (List ℕ)
behind_place bytes place = option_map (λ k. drop (k + 5) bytes) place

-- THE SCRIPT OF AN INPUT: what stands before its first line `text`
abbrev pub script_in : List ℕ → List ℕ
script_in bytes = before_place bytes (text_place bytes)

-- THE PRINTED TEXT OF AN INPUT: what stands behind its first line `text`, where there is one
abbrev pub text_in : List ℕ → Option (List ℕ)
text_in bytes = behind_place bytes (text_place bytes)
