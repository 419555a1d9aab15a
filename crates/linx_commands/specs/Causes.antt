-- What each part of a run says to the status that it ends with.
use Rattle.std.specs.Prelude.{ℕ, ◌≡◌, Bool, true, false, List, Option, IfSome, Result, Ok, Err}
use Rattle.fabric.specs.declared.stop.StopCause.{StopCause}
use Rattle.fabric.specs.declared.stop.StopCause.TheVariants as stops
use Rattle.linx_outside.specs.declared.whole_reads.ReadStop.{ReadStop}
use Rattle.linx_outside.specs.declared.whole_reads.ReadStop.TheVariants as reads
use Rattle.report.specs.declared.reports.ReportError.{ReportError}
use Rattle.report.specs.declared.reports.ReportError.TheVariants as reports
use Rattle.script_lang.specs.declared.script_error.ScriptError.{ScriptError}
use Rattle.script_lang.specs.declared.script_error.ScriptError.TheVariants as scripts
use Rattle.order_lines.specs.Fronts.{ordered_of}
use Rattle.linx_commands.specs.Runs.{read_of}
use Rattle.linx_commands.specs.declared.outcome.Status.{Status}
use Rattle.linx_commands.specs.declared.outcome.Status.TheVariants.{Done, Script, ReadFault}
use Rattle.linx_commands.specs.declared.outcome.Status.TheVariants.{WriteFault, JournalFull}
use Rattle.linx_commands.specs.declared.outcome.Status.TheVariants.{NoMemory}

-- what each status says of a source's bytes that gave no script
abbrev pub IsUnread : Status → Option (List ℕ) → Type 0
IsUnread (Script line fault) told =
    IfSome told (λ bytes. ordered_of (read_of bytes) ≡ Err (line, fault))
IsUnread ReadFault told = Unit {0}
IsUnread NoMemory told = Unit {0}
IsUnread _ told = ⊥

-- the status of a text's writing
abbrev pub is_of_writing : Status → Bool
is_of_writing Done = true
is_of_writing WriteFault = true
is_of_writing NoMemory = true
is_of_writing _ = false

-- the status of a read that stopped short
abbrev pub read_status : ReadStop → Status
read_status reads.ReadFault = ReadFault
read_status reads.NoMemory = NoMemory

-- the status of bytes that are no script
abbrev pub script_status : ScriptError → Status
script_status (scripts.Bad line fault) = Script line fault
script_status scripts.NoMemory = NoMemory

-- the status of a step that wasn't made
abbrev pub stop_status : StopCause → Status
stop_status stops.JournalFull = JournalFull
stop_status stops.NoMemory = NoMemory

-- the status of a report that was to be written
abbrev pub report_status : Result (Unit {0}) ReportError → Status
report_status (Ok written) = Done
report_status (Err reports.WriteFault) = WriteFault
report_status (Err reports.NoMemory) = NoMemory
