-- words as names
use Rattle.std.specs.Prelude.{ℕ, ◌||◌, Result, Ok, Err, List, codes, if◌then◌else◌}
use Rattle.std.specs.Str.{bytes_eq}
use Rattle.linx_base.specs.NameText.{is_name}
use Rattle.script_words.specs.declared.fault.Fault.{Fault}
use Rattle.script_words.specs.Faults.{bad_shape}
use Rattle.script_words.specs.Gives.{◌>>=◌}
use Rattle.script_words.specs.Words.{only}

-- a part of the word as a name
abbrev pub name_in : List ℕ → List ℕ → Result (List ℕ) Fault
name_in word part = if is_name part then Ok part else Err (bad_shape word)

-- the word as a name
abbrev pub name_of : List ℕ → Result (List ℕ) Fault
name_of word = name_in word word

-- the only word behind that statement as a name
abbrev pub one_name_of : List ℕ → List (List ℕ) → Result (List ℕ) Fault
one_name_of statement words = only statement words >>= name_of

-- a name for a peer, which isn't `self` or `last`
unfoldable pub kept_name_of : List ℕ → Result (List ℕ) Fault
kept_name_of word =
    if bytes_eq word (codes "self") || bytes_eq word (codes "last") then Err (bad_shape word)
    else name_of word
