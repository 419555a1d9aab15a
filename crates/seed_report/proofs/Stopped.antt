-- What is seen of a run is that of its journal, or what its stop says.
use Rattle.std.proofs.Common.{◌≡◌, ℕ, List, Option, Some, Result, subst, sym}
use Rattle.std.specs.Prelude.{IfErr, IfOk}
use Rattle.fabric.specs.declared.stop.StopCause.TheVariants as causes
use Rattle.journal.specs.Logs.{Log}
use Rattle.order_lines.specs.Faults.{IsBadOf}
use Rattle.order_lines.specs.Fronts.{ordered_of}
use Rattle.run_outcomes.specs.Seen.{seen_of}
use Rattle.run_outcomes.specs.SeenParts.{SeenParts}
use Rattle.script_lang.specs.declared.script_error.ScriptError.{ScriptError}
use Rattle.seed_runs.specs.Runs.{IsRunOf, IsStopOf}
use Rattle.seed_runs.specs.declared.runs.RunStop.{RunStop}
use Rattle.seed_runs.specs.declared.runs.RunStop.TheVariants.{Bad, Stopped, NoMemory}
use Rattle.seed_report.specs.Reports.{IsSeen}
use Rattle.seed_report.specs.Stops.{seen_of_stop}

pub whole_seen : (bytes : List ℕ) (actors seed : ℕ) (log : Log) (seen : SeenParts)
    → IsRunOf bytes seed log → seen ≡ seen_of actors log.steps
    → IsSeen bytes actors seed (Some seen)
whole_seen bytes actors seed log seen run same =
    record { log = log; run = run; same = same }

by_stop : (bytes : List ℕ) (actors seed : ℕ) (stop : RunStop) → IsStopOf bytes seed stop
    → IfOk (seen_of_stop stop) (IsSeen bytes actors seed)
by_stop bytes actors seed (Bad line fault) is = tt
by_stop bytes actors seed (Stopped causes.JournalFull journal) is =
    record { log = journal.log; stopped = is }
by_stop bytes actors seed (Stopped causes.NoMemory journal) is = tt
by_stop bytes actors seed NoMemory is = tt

bad_by_stop : (bytes : List ℕ) (seed : ℕ) (stop : RunStop) → IsStopOf bytes seed stop
    → IfErr (seen_of_stop stop) (λ e. IsBadOf (ordered_of bytes) e)
bad_by_stop bytes seed (Bad line fault) is = is
bad_by_stop bytes seed (Stopped causes.JournalFull journal) is = tt
bad_by_stop bytes seed (Stopped causes.NoMemory journal) is = tt
bad_by_stop bytes seed NoMemory is = tt

pub stopped_seen : (bytes : List ℕ) (actors seed : ℕ) (stop : RunStop)
    (result : Result (Option SeenParts) ScriptError) → IsStopOf bytes seed stop
    → result ≡ seen_of_stop stop → IfOk result (IsSeen bytes actors seed)
stopped_seen bytes actors seed stop result stopped is =
    subst (λ (r : Result (Option SeenParts) ScriptError). IfOk r (IsSeen bytes actors seed)) (sym is)
    (by_stop bytes actors seed stop stopped)

pub stopped_bad : (bytes : List ℕ) (seed : ℕ) (stop : RunStop)
    (result : Result (Option SeenParts) ScriptError) → IsStopOf bytes seed stop
    → result ≡ seen_of_stop stop → IfErr result (λ e. IsBadOf (ordered_of bytes) e)
stopped_bad bytes seed stop result stopped is =
    subst (λ (r : Result (Option SeenParts) ScriptError). IfErr r (λ e. IsBadOf (ordered_of bytes) e))
    (sym is) (bad_by_stop bytes seed stop stopped)
