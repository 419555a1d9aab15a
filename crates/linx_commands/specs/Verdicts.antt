-- What is written of a printed text that was judged: a word, and how many steps it has.
use Rattle.std.specs.Prelude.{ℕ, List, ◌++◌, codes, decimal}

-- the line of a verdict
abbrev pub verdict_line : List ℕ → ℕ → List ℕ
verdict_line word steps = word ++ codes " " ++ decimal steps ++ codes "\n"
