-- The names of files.
use Rattle.std.specs.Prelude.{◌==◌, ℕ, Bool, true, ◌||◌, not, List, [], ◌∷◌, codes}
use Rattle.std.specs.Str.{bytes_eq}

-- the text is empty, or begins with `-` (45)
abbrev pub is_no_name : List ℕ → Bool
is_no_name [] = true
is_no_name (byte ∷ bytes) = byte == 45

-- the text names a file, or standard input by `-`
abbrev pub is_file_name : List ℕ → Bool
is_file_name text = bytes_eq text (codes "-") || not (is_no_name text)
