-- How a search of the runs of some seeds ends, and their report.
use Rattle.std.specs.Prelude.{ℕ, ◌≡◌, ◌+◌, ◌⊎◌, List, [], Err}
use Rattle.command_words.specs.declared.range.Range.{Range}
use Rattle.command_words.specs.declared.search.Search.{Search}
use Rattle.fabric.specs.declared.stop.StopCause.{StopCause}
use Rattle.fabric.specs.declared.stop.StopCause.TheVariants as stops
use Rattle.journal.specs.Logs.{Log}
use Rattle.order_lines.specs.Fronts.{ordered_of}
use Rattle.seed_runs.specs.Runs.{IsStoppedRunOf}
use Rattle.seed_report.specs.Reports.{IsReport}
use Rattle.seed_search.specs.Searches.{IsAmong, IsFirst, ShowNothing, found_text}
use Rattle.linx_commands.specs.Runs.{IsEmptyLog}
use Rattle.linx_commands.specs.declared.outcome.Status.{Status}
use Rattle.linx_commands.specs.declared.outcome.Status.TheVariants.{Done, Script, WriteFault}
use Rattle.linx_commands.specs.declared.outcome.Status.TheVariants.{JournalFull, NoMemory, FoundNone}

-- a text is what is written of the first seed of a search whose run shows what is sought
pub record IsFound (search : Search) (wanted : List (List ℕ)) (bytes text : List ℕ) (log : Log)
    : Type 0 where
  pub seed : ℕ
  pub line : List ℕ
  pub first : IsFirst bytes search.first search.more search.sought wanted seed line
  pub is : text ≡ found_text seed line
  -- no journal is handed back
  pub empty : IsEmptyLog log

-- no run of a search shows what is sought
pub record IsFoundInNone (search : Search) (wanted : List (List ℕ)) (bytes : List ℕ) (log : Log)
    : Type 0 where
  pub none : ShowNothing bytes search.sought wanted search.first (search.first + search.more + 1)
  pub empty : IsEmptyLog log

-- a search came to a run that stopped, and hands back its journal; before it none shows what is sought
pub record IsHalted (cause : StopCause) (search : Search) (wanted : List (List ℕ)) (bytes : List ℕ)
    (log : Log) : Type 0 where
  pub seed : ℕ
  pub among : IsAmong search.first search.more seed
  pub before : ShowNothing bytes search.sought wanted search.first seed
  pub stopped : IsStoppedRunOf bytes seed cause log

-- WHAT EACH STATUS SAYS OF A SEARCH in the script that these bytes spell, of the text that it writes
-- and of the journal that it hands back
abbrev pub IsSearchEnd : Search → List (List ℕ) → List ℕ → Status → List ℕ → Log → Type 0
IsSearchEnd search wanted bytes Done text log = IsFound search wanted bytes text log
IsSearchEnd search wanted bytes WriteFault text log = IsFound search wanted bytes text log
IsSearchEnd search wanted bytes FoundNone text log = IsFoundInNone search wanted bytes log
IsSearchEnd search wanted bytes JournalFull text log =
    IsHalted stops.JournalFull search wanted bytes log
IsSearchEnd search wanted bytes NoMemory text log =
    IsEmptyLog log ⊎ IsHalted stops.NoMemory search wanted bytes log
IsSearchEnd search wanted bytes (Script line fault) text log =
    (ordered_of bytes ≡ Err (line, fault)) × IsEmptyLog log
IsSearchEnd search wanted bytes _ text log = ⊥

-- a search ended so, and nothing is written
abbrev pub IsHaltedBy : Search → List (List ℕ) → List ℕ → Status → Log → Type 0
IsHaltedBy search wanted bytes status log = IsSearchEnd search wanted bytes status [] log

-- WHAT EACH STATUS SAYS OF THE REPORT of the runs of a range of seeds, and of the text that is written
abbrev pub IsSeedsEnd : Range → List ℕ → Status → List ℕ → Type 0
IsSeedsEnd range bytes Done text = IsReport bytes range.first range.more text
IsSeedsEnd range bytes WriteFault text = IsReport bytes range.first range.more text
IsSeedsEnd range bytes (Script line fault) text = ordered_of bytes ≡ Err (line, fault)
IsSeedsEnd range bytes NoMemory text = Unit {0}
IsSeedsEnd range bytes _ text = ⊥
