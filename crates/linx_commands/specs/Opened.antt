-- The file that the words name: opened and read, or not opened.
use Rattle.std.specs.Prelude.{ℕ, ◌≡◌, List, Option}
use Rattle.journal.specs.Logs.{Log}
use Rattle.linx_outside.specs.declared.files.OpenFault.{OpenFault}
use Rattle.linx_commands.specs.Runs.{IsEmptyLog}
use Rattle.linx_commands.specs.declared.outcome.Status.{Status}
use Rattle.linx_commands.specs.declared.outcome.Status.TheVariants.{Unopened}

-- a file was opened, which tells the bytes that the files tell of its name, and read
pub record IsReadOfFile {T : Type 0} (left : T → Option (List ℕ)) (content : Option (List ℕ))
    (reads : T → T → Type 0) : Type 0 where
  pub opened : T
  pub rest : T
  pub told : left opened ≡ content
  pub read : reads opened rest

-- a file wasn't opened, for a reason for which these files may refuse it; nothing was run or written
pub record IsUnopened (refuses : OpenFault → Type 0) (quiet : Type 0) (ended : Status) (log : Log)
    : Type 0 where
  pub why : OpenFault
  pub refused : refuses why
  pub status : ended ≡ Unopened why
  pub empty : IsEmptyLog log
  pub silent : quiet
