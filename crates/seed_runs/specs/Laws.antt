-- That a seed decides a run.
use Rattle.std.specs.Prelude.{ℕ, ◌≡◌, List}
use Rattle.journal.specs.Logs.{Log}
use Rattle.fabric.specs.declared.stop.StopCause.TheVariants.{JournalFull}
use Rattle.seed_runs.specs.Runs.{IsRunOf, IsStoppedRunOf}

-- A SEED DECIDES A RUN of the script that bytes spell
pub record SeedsDecide : Type 0 where
  -- two whole runs of one seed have one journal
  pub one :
      (bytes : List ℕ) (seed : ℕ) (first second : Log) → IsRunOf bytes seed first
      → IsRunOf bytes seed second → first ≡ second
  -- so have two that a full journal stopped
  pub full :
      (bytes : List ℕ) (seed : ℕ) (first second : Log)
      → IsStoppedRunOf bytes seed JournalFull first → IsStoppedRunOf bytes seed JournalFull second
      → first ≡ second
  -- and no seed has one of each kind
  pub apart :
      (bytes : List ℕ) (seed : ℕ) (first second : Log) → IsRunOf bytes seed first
      → IsStoppedRunOf bytes seed JournalFull second → ⊥
