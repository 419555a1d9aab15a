-- What a search of a range answers, and that of two parts of it.
use Rattle.std.specs.Prelude.{ℕ, List, Option, Some, None, Result, Ok, Err}
use Rattle.line_search.specs.declared.sought.Sought.{Sought}
use Rattle.seed_runs.specs.declared.runs.RunStop.{RunStop}
use Rattle.seed_search.specs.Searches.{IsAnswer, IsStop}
use Rattle.seed_search.specs.declared.search.Found.{Found}

-- WHAT A SEARCH of a seed and so many behind it GIVES: its answer, or where it stops
abbrev pub Finds : List ℕ → ℕ → ℕ → Sought → List (List ℕ) → Result (Option Found) RunStop → Type 0
Finds bytes first more sought wanted (Ok found) = IsAnswer bytes first more sought wanted found
Finds bytes first more sought wanted (Err stop) = IsStop bytes first more sought wanted stop

-- what is found in a range is what is found in its front, or else behind it
abbrev pub front_or_behind : Result (Option Found) RunStop → Result (Option Found) RunStop
    → Result (Option Found) RunStop
front_or_behind (Ok None) behind = behind
front_or_behind (Ok (Some found)) behind = Ok (Some found)
front_or_behind (Err stop) behind = Err stop
