-- THE REPORT OF THE RUNS OF SOME SEEDS.
use Rattle.std.specs.Prelude.{ℕ, ◌≡◌, ◌+◌, List, [], ◌∷◌, length, Option, None, Some, Ok}
use Rattle.journal.specs.Logs.{Log}
use Rattle.fabric.specs.declared.stop.StopCause.TheVariants.{JournalFull}
use Rattle.order_lines.specs.Fronts.{OrderedParts, ordered_of}
use Rattle.run_outcomes.specs.Seen.{seen_of}
use Rattle.run_outcomes.specs.SeenParts.{SeenParts}
use Rattle.seed_runs.specs.Runs.{IsRunOf, IsStoppedRunOf}
use Rattle.outcome_tally.specs.Report.{report_text}
use Rattle.outcome_tally.specs.Tallies.{Ran, tally_of}
use Rattle.outcome_tally.specs.TallyParts.{TallyParts}

-- the script that bytes spell has so many actors
pub record HasActors (bytes : List ℕ) (actors : ℕ) : Type 0 where
  pub ordered : OrderedParts
  pub spelled : ordered_of bytes ≡ Ok ordered
  pub many : actors ≡ length ordered.script.actors

-- this is seen of the whole run of a seed, of a script with so many actors
pub record IsWholeSeen (bytes : List ℕ) (actors seed : ℕ) (seen : SeenParts) : Type 0 where
  pub log : Log
  pub run : IsRunOf bytes seed log
  pub same : seen ≡ seen_of actors log.steps

-- the journal of the run of a seed was full before its end
pub record IsFullRun (bytes : List ℕ) (seed : ℕ) : Type 0 where
  pub log : Log
  pub stopped : IsStoppedRunOf bytes seed JournalFull log

-- WHAT IS SEEN OF THE RUN OF A SEED; nothing, where its journal was full before its end
abbrev pub IsSeen : List ℕ → ℕ → ℕ → Option SeenParts → Type 0
IsSeen bytes actors seed (Some seen) = IsWholeSeen bytes actors seed seen
IsSeen bytes actors seed None = IsFullRun bytes seed

-- this is the run of the seed that is so many behind the first, and what is seen of it
pub record IsRan (bytes : List ℕ) (actors first behind : ℕ) (ran : Ran) : Type 0 where
  pub seed : ran.seed ≡ first + behind
  pub seen : IsSeen bytes actors ran.seed ran.seen

-- these are the runs of seeds, one after the other from the first on; the last one stands first
abbrev pub AreRans : List ℕ → ℕ → ℕ → List Ran → Type 0
AreRans bytes actors first [] = Unit {0}
AreRans bytes actors first (ran ∷ before) =
    IsRan bytes actors first (length before) ran × AreRans bytes actors first before

-- THE TALLY OF THE RUNS OF SEEDS, from the first on, as far as before this one
pub record IsTallied (bytes : List ℕ) (actors first behind : ℕ) (tally : TallyParts) : Type 0 where
  pub rans : List Ran
  pub are : AreRans bytes actors first rans
  pub far : first + length rans ≡ behind
  pub tallied : tally ≡ tally_of rans

-- THE REPORT of the runs of a seed and of so many behind it, each once
pub record IsReport (bytes : List ℕ) (first more : ℕ) (text : List ℕ) : Type 0 where
  pub actors : ℕ
  pub has_actors : HasActors bytes actors
  pub tally : TallyParts
  pub tallied : IsTallied bytes actors first (first + more + 1) tally
  pub told : text ≡ report_text actors tally
