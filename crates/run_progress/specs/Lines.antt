-- The line of a progress.
use Rattle.std.specs.Prelude.{ℕ, List, ◌++◌, codes, decimal}

-- so many of so many runs were made
abbrev pub progress_line : ℕ → ℕ → List ℕ
progress_line runs of = codes "runs " ++ decimal runs ++ codes " of " ++ decimal of ++ codes "\n"
