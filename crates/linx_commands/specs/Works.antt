-- What is done with what is read: a source is read to its end, and a text is written.
use Rattle.std.specs.Prelude.{ℕ, ◌≡◌, ◌⊎◌, Bool, false, List, take, Option, Some, None, IfSome}
use Rattle.command_words.specs.Charts.{makers_named}
use Rattle.command_words.specs.Requests.{tells_progress, wanted_of}
use Rattle.command_words.specs.declared.request.Request.{Request}
use Rattle.command_words.specs.declared.request.Request.TheVariants as requests
use Rattle.command_words.specs.declared.work.Work.{Work}
use Rattle.command_words.specs.declared.work.Work.TheVariants.{Find, Seeds, Order, Replay, Check, Chart}
use Rattle.journal.specs.Logs.{Log}
use Rattle.linx_outside.specs.declared.files.OpenFault.{OpenFault}
use Rattle.linx_commands.specs.Checks.{IsCheckEnd}
use Rattle.linx_commands.specs.Charts.{IsChartEnd}
use Rattle.linx_commands.specs.Printed.{IsOrderEnd, IsTextDone}
use Rattle.linx_commands.specs.Opened.{IsUnopened}
use Rattle.linx_commands.specs.Replays.{IsReplayEnd}
use Rattle.linx_commands.specs.Runs.{IsEmptyLog, IsLegalSomehow}
use Rattle.linx_commands.specs.Searches.{IsSearchEnd, IsSeedsEnd}
use Rattle.linx_commands.specs.Streams.{read_most}
use Rattle.linx_commands.specs.declared.outcome.Status.{Status}
use Rattle.linx_commands.specs.declared.outcome.Status.TheVariants.{ReadFault, NoMemory}

-- the most bytes that are read: one more than a script may have, or a printed text
abbrev pub most_of : Work → ℕ
most_of (Find search) = read_most
most_of (Seeds asked) = read_most
most_of _ = 268435457

-- HOW A WORK ENDS: what each status says of the bytes that were read, of the text that is written and
-- of the journal that is handed back
abbrev pub IsEndOf : Work → List (List ℕ) → List ℕ → Status → List ℕ → Log → Type 0
IsEndOf (Find search) texts bytes status text log =
    IsSearchEnd search (wanted_of search texts) bytes status text log
IsEndOf (Seeds asked) texts bytes status text log =
    IsTextDone (IsSeedsEnd asked.range bytes) status text log
IsEndOf Order texts bytes status text log = IsTextDone (IsOrderEnd bytes) status text log
IsEndOf Replay texts bytes status text log = IsTextDone (IsReplayEnd bytes) status text log
IsEndOf Check texts bytes status text log = IsTextDone (IsCheckEnd bytes) status text log
IsEndOf (Chart drawn) texts bytes status text log =
    IsTextDone (IsChartEnd drawn (makers_named drawn texts) bytes) status text log

-- a work ended so, and this was written
pub record Ends (ended : Status → List ℕ → Log → Type 0) (writes : List ℕ → Type 0)
    (status : Status) (log : Log) : Type 0 where
  pub text : List ℕ
  pub is : ended status text log
  pub written : writes text
  pub legal : IsLegalSomehow log.steps

-- a work ended so with the bytes that were read, which are these where they are told
pub record IsWorkedIn (work : Work) (texts : List (List ℕ)) (told : Option (List ℕ))
    (status : Status) (text : List ℕ) (log : Log) : Type 0 where
  pub bytes : List ℕ
  pub read : IfSome told (λ all. take (most_of work) all ≡ bytes)
  pub ended : IsEndOf work texts bytes status text log

-- nothing was read: a read failed, or memory was refused
abbrev pub IsReadStop : Status → Type 0
IsReadStop ReadFault = Unit {0}
IsReadStop NoMemory = Unit {0}
IsReadStop _ = ⊥

-- a work had nothing to begin with, and hands back an empty journal
pub record HasNoInput (status : Status) (log : Log) : Type 0 where
  pub stopped : IsReadStop status
  pub empty : IsEmptyLog log

-- A WORK with what a source holds: the cause of the status, of the bytes that the source told; what
-- was read; and what was written
pub record IsWorked (work : Work) (texts : List (List ℕ)) (told : Option (List ℕ))
    (reads : Type 0) (writes : List ℕ → Type 0) (status : Status) (log : Log) : Type 0 where
  pub text : List ℕ
  pub cause : HasNoInput status log ⊎ IsWorkedIn work texts told status text log
  pub read : reads
  pub written : writes text

-- a work with what a file holds, or none where the file couldn't be opened
abbrev pub IsWorkedOfFile : Work → List (List ℕ) → Option (List ℕ) → (OpenFault → Type 0) → Type 0
    → Type 0 → (List ℕ → Type 0) → Status → Log → Type 0
IsWorkedOfFile work texts told refuses silent reads writes status log =
    IsUnopened refuses silent status log ⊎ IsWorked work texts told reads writes status log

-- A WORK WITH THE SOURCE THAT THE WORDS NAME: standard input, or a file, and then standard input is
-- left as it was
abbrev pub IsWorkedFrom : Work → List (List ℕ) → Option (List ℕ) → Option (List ℕ) → Type 0
    → Type 0 → (List ℕ → Option (List ℕ)) → (List ℕ → OpenFault → Type 0) → Type 0
    → (List ℕ → Type 0) → (List ℕ → Type 0) → Status → Log → Type 0
IsWorkedFrom work texts None told unread reads of_file refuses silent reads_file writes status log =
    IsWorked work texts told reads writes status log
IsWorkedFrom work texts (Some name) told unread reads of_file refuses silent reads_file writes status
    log =
    unread × IsWorkedOfFile work texts (of_file name) (refuses name) silent (reads_file name) writes
    status log

-- if the words ask for a work, something holds of that work
abbrev pub IfWork : Option Request → (Work → Type 0) → Type 0
IfWork (Some (requests.Work work)) holds = holds work
IfWork _ holds = Unit {0}

-- the words ask for many runs, and to be told how far they have come
abbrev pub asks_progress : Option Request → Bool
asks_progress (Some (requests.Work work)) = tells_progress work
asks_progress _ = false
