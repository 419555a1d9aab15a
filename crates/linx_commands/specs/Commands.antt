-- What each command of the command line does: which script it runs, what it reads of the source,
-- and what it writes of the run.
use Rattle.std.specs.Prelude.{ℕ, ◌≡◌, ◌≢◌, false, List, Option, IfSome}
use Rattle.journal.specs.Logs.{Log, is_full}
use Rattle.journal_text.specs.Text.{text_of}
use Rattle.report.specs.Summary.{summary_of}
use Rattle.work_gen.specs.Generated.{generated}
use Rattle.linx_commands.specs.Runs.{Completes, IsOutcomeOf, IsCaused, unordered}
use Rattle.linx_commands.specs.Statuses.{IsDoneOrRefused}
use Rattle.linx_commands.specs.Streams.{Reads}
use Rattle.command_words.specs.declared.request.Asked.{Asked}
use Rattle.command_words.specs.declared.request.Asked.TheVariants.{Run, InOrder, Gen}
use Rattle.linx_commands.specs.declared.outcome.Status.{Status}
use Rattle.linx_commands.specs.declared.outcome.Status.TheVariants.{WriteFault}

-- The cause of each status under a command: what it says of the script that the source's bytes
-- spell, where it told them, or of the generated one, and of the journal
abbrev pub IsCausedUnder : Asked → Status → Option (List ℕ) → Log → Type 0
IsCausedUnder Run status told log = IsCaused Run status told log
IsCausedUnder (InOrder order) status told log = IsCaused (InOrder order) status told log
IsCausedUnder (Gen n) status told log = IsOutcomeOf (Gen n) status (unordered (generated n)) log

-- the run that a command asks for is done, or memory was refused, where neither a read nor a write
-- failed, and the journal has room
abbrev pub CompletesUnder : Asked → Option (List ℕ) → Status → Log → Type 0
CompletesUnder Run told status log = IfSome told (λ bytes. Completes bytes status log)
CompletesUnder (InOrder order) told status log = IfSome told (λ bytes. Completes bytes status log)
CompletesUnder (Gen n) told status log =
    is_full log.steps ≡ false → status ≢ WriteFault → IsDoneOrRefused status

-- what a command reads: a generated run leaves the source untouched
abbrev pub ReadsUnder : {S : Type 0} → Asked → (S → Option (List ℕ)) → (S → ℕ) → Option ℕ
    → (S → Type 0) → S → S → Status → Type 0
ReadsUnder Run left faults last is_faultless old new status =
    Reads left faults last is_faultless old new status
ReadsUnder (InOrder order) left faults last is_faultless old new status =
    Reads left faults last is_faultless old new status
ReadsUnder (Gen n) left faults last is_faultless old new status = new ≡ old

-- what a command writes of a whole run: its text, or the summary of a generated one
abbrev pub written_under : Asked → Log → List ℕ
written_under Run log = text_of log
written_under (InOrder order) log = text_of log
written_under (Gen n) log = summary_of log
