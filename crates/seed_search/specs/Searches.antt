-- WHICH OF SOME SEEDS IS THE FIRST whose run shows what is sought.
use Rattle.std.specs.Prelude.{ℕ, ◌≡◌, ◌+◌, ◌<◌, ◌≤◌, List, ◌++◌, codes, decimal, Option, Some, None}
use Rattle.journal.specs.Logs.{Log}
use Rattle.journal_text.specs.Text.{text_of}
use Rattle.line_search.specs.Search.{shown_in}
use Rattle.line_search.specs.declared.sought.Sought.{Sought}
use Rattle.seed_runs.specs.Runs.{IsRunOf, IsStopOf}
use Rattle.seed_runs.specs.declared.runs.RunStop.{RunStop}
use Rattle.seed_search.specs.declared.search.Found.{Found}

-- this is the text of the run of a seed
pub record IsPrinted (bytes : List ℕ) (seed : ℕ) (text : List ℕ) : Type 0 where
  pub log : Log
  pub run : IsRunOf bytes seed log
  pub printed : text_of log ≡ text

-- what the text of the run of a seed shows of what is sought: this line, or nothing
pub record IsShown (bytes : List ℕ) (sought : Sought) (wanted : List (List ℕ)) (seed : ℕ)
    (line : Option (List ℕ)) : Type 0 where
  pub text : List ℕ
  pub printed : IsPrinted bytes seed text
  pub shown : shown_in sought wanted text ≡ line

-- the runs of the seeds from one on, as far as before another one, show nothing
abbrev pub ShowNothing : List ℕ → Sought → List (List ℕ) → ℕ → ℕ → Type 0
ShowNothing bytes sought wanted first behind =
    (seed : ℕ) → first ≤ seed → seed < behind → IsShown bytes sought wanted seed None

-- a seed is this one, or one of so many behind it
pub record IsAmong (first more seed : ℕ) : Type 0 where
  pub from : first ≤ seed
  pub to : seed ≤ first + more

-- THE FIRST SEED of these whose run shows what is sought, and the line
pub record IsFirst (bytes : List ℕ) (first more : ℕ) (sought : Sought) (wanted : List (List ℕ))
    (seed : ℕ) (line : List ℕ) : Type 0 where
  pub among : IsAmong first more seed
  -- its run shows it
  pub shown : IsShown bytes sought wanted seed (Some line)
  -- and none before does
  pub before : ShowNothing bytes sought wanted first seed

-- WHAT A SEARCH ANSWERS: the first seed; or that no run of these shows what is sought
abbrev pub IsAnswer : List ℕ → ℕ → ℕ → Sought → List (List ℕ) → Option Found → Type 0
IsAnswer bytes first more sought wanted (Some found) =
    IsFirst bytes first more sought wanted found.seed found.line.items
IsAnswer bytes first more sought wanted None =
    ShowNothing bytes sought wanted first (first + more + 1)

-- WHERE A SEARCH STOPS: at the first seed of these that has no whole run, before which none shows what
-- is sought
pub record IsStop (bytes : List ℕ) (first more : ℕ) (sought : Sought) (wanted : List (List ℕ))
    (stop : RunStop) : Type 0 where
  pub seed : ℕ
  pub among : IsAmong first more seed
  pub before : ShowNothing bytes sought wanted first seed
  pub stopped : IsStopOf bytes seed stop

-- WHAT IS WRITTEN of a seed and the line of its run
abbrev pub found_text : ℕ → List ℕ → List ℕ
found_text seed line = codes "seed " ++ decimal seed ++ codes "\n" ++ line
