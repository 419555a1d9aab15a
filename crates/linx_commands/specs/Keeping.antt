-- A gateway whose journal is kept in a file.
use Rattle.std.specs.Prelude.{ℕ, ◌≡◌, ◌⊎◌, List, Option, Some, None, Result, Ok, Err, IfErr, OnOk}
use Rattle.std.specs.Io.KnownBytes.{Appends}
use Rattle.journal.specs.Logs.{Log}
use Rattle.journal_text.specs.Text.{text_of}
use Rattle.linx_outside.specs.Counts.{HasFaulted, NeverFalls}
use Rattle.linx_outside.specs.Told.{AppendsFront}
use Rattle.linx_files.specs.declared.make_fault.MakeFault.{MakeFault}
use Rattle.report.specs.declared.reports.ReportError.{ReportError}
use Rattle.report.specs.declared.reports.ReportError.TheVariants as reports
use Rattle.linx_commands.specs.Runs.{IsEmptyLog}
use Rattle.linx_commands.specs.declared.outcome.Status.{Status}
use Rattle.linx_commands.specs.declared.outcome.Status.TheVariants.{NoMemory, Unmade, Unkept}

-- What was written of a text into a file: all of it, where it was kept; some first bytes of it, or
-- all, at a write fault, which comes only where the file's count of faults rose, or stands at its
-- last value; nothing where memory was refused
pub record IsKept {N : Type 0} (held : N → Option (List ℕ)) (faults : N → ℕ) (last : Option ℕ)
    (old new : N) (kept : Result (Unit {0}) ReportError) (text : List ℕ) : Type 0 where
  pub written : OnOk kept (Appends (held old) (held new) text)
  pub unfaulted : OnOk kept (faults new ≡ faults old)
  pub front : IfErr kept (λ e. e ≡ reports.WriteFault
      → Appends (held old) (held new) text ⊎ AppendsFront (held old) (held new) text)
  pub faulted : IfErr kept (λ e. e ≡ reports.WriteFault → HasFaulted last (faults old) (faults new))
  pub no_memory : IfErr kept (λ e. e ≡ reports.NoMemory → new ≡ old)
  pub never_falls : NeverFalls last (faults old) (faults new)

-- the status of a session that ended with this one, by whether its journal was kept: Unkept where a
-- write into the file failed, NoMemory where memory was refused for the text, else its own
abbrev pub kept_status : Status → Result (Unit {0}) ReportError → Status
kept_status ended (Ok kept) = ended
kept_status ended (Err reports.WriteFault) = Unkept
kept_status ended (Err reports.NoMemory) = NoMemory

-- the file can't be made, for a reason for which it may be refused; nothing was read or replied, and
-- the file is as it was
pub record IsUnmade {N : Type 0} (refuses : MakeFault → Type 0) (untouched : Type 0) (old new : N)
    (status : Status) (log : Log) : Type 0 where
  pub why : MakeFault
  pub refused : refuses why
  pub told : status ≡ Unmade why
  pub empty : IsEmptyLog log
  pub quiet : untouched
  pub unmade : new ≡ old

-- A GATEWAY WHOSE JOURNAL IS KEPT: the file was made, so it holds what one does at first; the session
-- was served; and behind it the file grew by the text of the session's journal, so far as it was kept
pub record IsKeptGateway {N : Type 0} (serves : Status → Log → Type 0) (held : N → Option (List ℕ))
    (faults : N → ℕ) (last : Option ℕ) (at_first : Option (List ℕ)) (old new : N) (status : Status)
    (log : Log) : Type 0 where
  -- the file that was made
  pub made : N
  pub begun : held made ≡ at_first
  pub unfaulted : faults made ≡ faults old
  -- how the session ended
  pub ended : Status
  pub served : serves ended log
  -- what was written of its journal
  pub kept : Result (Unit {0}) ReportError
  pub written : IsKept held faults last made new kept (text_of log)
  pub told : status ≡ kept_status ended kept

-- the file can't be made, or the gateway's journal is kept in it
abbrev pub IsKeptOrUnmade : {N : Type 0} → (Status → Log → Type 0) → Type 0
    → (MakeFault → Type 0) → (N → Option (List ℕ)) → (N → ℕ) → Option ℕ → Option (List ℕ)
    → N → N → Status → Log → Type 0
IsKeptOrUnmade serves untouched refuses held faults last at_first old new status log =
    IsUnmade refuses untouched old new status log
    ⊎ IsKeptGateway serves held faults last at_first old new status log

-- A GATEWAY AS THE WORDS ASK FOR IT: its journal is kept in no file, or in that of this name
abbrev pub IsGatewayFrom : {N : Type 0} → Option (List ℕ) → (Status → Log → Type 0) → Type 0
    → (List ℕ → MakeFault → Type 0) → (N → Option (List ℕ)) → (N → ℕ) → Option ℕ
    → Option (List ℕ) → N → N → Status → Log → Type 0
IsGatewayFrom None serves untouched refuses held faults last at_first old new status log =
    serves status log
IsGatewayFrom (Some name) serves untouched refuses held faults last at_first old new status log =
    IsKeptOrUnmade serves untouched (refuses name) held faults last at_first old new status log
