-- What the program does with its command line, its files and its streams.
use Rattle.std.specs.Prelude.{ℕ, ◌≡◌, ◌⊎◌, true, List, [], map, Option, Some, None, IfNone}
use Rattle.std.specs.Prelude.{string_bytes}
use Rattle.command_words.specs.Pages.{page_of}
use Rattle.command_words.specs.Requests.{file_by, journal_by, request_by}
use Rattle.command_words.specs.declared.misuse.Misuse.TheVariants.{Wordless}
use Rattle.command_words.specs.declared.page.Page.{Page}
use Rattle.command_words.specs.declared.request.Asked.{Asked}
use Rattle.command_words.specs.declared.request.Asked.TheVariants as asks
use Rattle.command_words.specs.declared.request.Request.{Request}
use Rattle.command_words.specs.declared.request.Request.TheVariants.{Show, Play, Echo, Serve}
use Rattle.command_words.specs.declared.request.Request.TheVariants as requests
use Rattle.command_words.specs.declared.work.Work.{Work}
use Rattle.journal.specs.Logs.{Log}
use Rattle.linx_outside.specs.declared.files.OpenFault.{OpenFault}
use Rattle.linx_commands.specs.Causes.{is_of_writing}
use Rattle.linx_commands.specs.Commands.{CompletesUnder, IsCausedUnder, ReadsUnder, written_under}
use Rattle.linx_commands.specs.Headline.{HeadlineUnder}
use Rattle.linx_commands.specs.Lines.{line_by}
use Rattle.linx_commands.specs.Opened.{IsReadOfFile, IsUnopened}
use Rattle.linx_commands.specs.Runs.{IsEmptyLog, IsLegalSomehow}
use Rattle.linx_commands.specs.Statuses.{IsUsageOrRefused}
use Rattle.linx_commands.specs.Works.{IfWork}
use Rattle.linx_commands.specs.declared.outcome.Status.{Status}
use Rattle.linx_commands.specs.declared.outcome.Status.TheVariants.{Usage, NoMemory}
use Rattle.linx_commands.specs.declared.serving.InThreads.{InThreads}
use Rattle.linx_commands.specs.declared.serving.InThreads.TheVariants as threads
use Rattle.linx_commands.specs.declared.serving.Left.{Left}
use Rattle.linx_commands.specs.declared.serving.Left.TheVariants as lefts
use Rattle.linx_commands.specs.declared.words.Unread.{Unread}
use Rattle.linx_commands.specs.declared.words.Unread.TheVariants as why
use Rattle.linx_commands.specs.declared.words.Words.{Words}
use Rattle.linx_commands.specs.declared.words.Words.TheVariants as given

-- the texts of the words of a command line; none where they can't be had
abbrev pub texts_of : Words → List (List ℕ)
texts_of (given.Read words) = map string_bytes words.items
texts_of (given.Unread reason) = []

-- how the program ends without words
abbrev pub status_of_unread : Unread → Status
status_of_unread why.NotWords = Usage Wordless
status_of_unread why.NoMemory = NoMemory

-- where the words can't be had, the status says why
abbrev pub IsToldUnread : Words → Status → Type 0
IsToldUnread (given.Read words) status = Unit {0}
IsToldUnread (given.Unread reason) status = status ≡ status_of_unread reason

-- if the words ask for a page of the help, something holds of that page
abbrev pub IfShow : Option Request → (Page → Type 0) → Type 0
IfShow (Some (Show page)) holds = holds page
IfShow _ holds = Unit {0}

-- if the words ask for a run, something holds of that run
abbrev pub IfPlay : Option Request → (Asked → Type 0) → Type 0
IfPlay (Some (Play asked)) holds = holds asked
IfPlay _ holds = Unit {0}

-- if the words ask for an echo, something holds
abbrev pub IfEcho : Option Request → Type 0 → Type 0
IfEcho (Some Echo) holds = holds
IfEcho _ holds = Unit {0}

-- if the words ask for a gateway, something holds of its number of clients
abbrev pub IfServe : Option Request → (ℕ → Type 0) → Type 0
IfServe (Some (Serve clients)) holds = holds clients
IfServe _ holds = Unit {0}

-- what is asked for by a run in threads
abbrev pub asked_in : InThreads → Asked
asked_in threads.Run = asks.Run
asked_in (threads.Gen n) = asks.Gen n

-- what is asked for by what is left
abbrev pub request_in : Left → Request
request_in (lefts.Play threads) = Play (asked_in threads)
request_in (lefts.Work work) = requests.Work work

-- a run in threads or a work is asked for, and is left as it is: nothing was read or written
pub record IsLeft (request : Option Request) (left : Left) (unread silent : Type 0) : Type 0 where
  pub is : request ≡ Some (request_in left)
  pub untouched : unread
  pub quiet : silent

-- A PAGE OF THE HELP was written, or a front of it, or memory was refused; nothing was read or run
pub record IsShown (page : Page) (untouched : Type 0) (writes : List ℕ → Type 0) (status : Status)
    (log : Log) : Type 0 where
  pub kind : is_of_writing status ≡ true
  pub empty : IsEmptyLog log
  pub unread : untouched
  pub written : writes (page_of page)

-- A RUN of a source's script: the cause of the status, of the bytes that the source told and of the
-- journal; what was read; and what was written
pub record IsPlayed (asked : Asked) (told : Option (List ℕ)) (reads : Type 0)
    (writes : List ℕ → Type 0) (status : Status) (log : Log) : Type 0 where
  -- the cause of the status, of the script and of the journal
  pub cause : IsCausedUnder asked status told log
  -- the headline holds of the journal
  pub headline : HeadlineUnder asked told log
  -- where nothing failed and the journal has room, the run is done, or memory was refused
  pub complete : CompletesUnder asked told status log
  -- what was read of the source
  pub read : reads
  -- what was written of the run
  pub written : writes (written_under asked log)

-- a file was opened and read as a command reads its script
abbrev pub ReadsFile : {T : Type 0} → (T → Option (List ℕ)) → (T → ℕ) → Option ℕ → (T → Type 0)
    → Asked → Option (List ℕ) → Status → Type 0
ReadsFile left faults last is_faultless asked content status =
    IsReadOfFile left content
    (λ opened rest. ReadsUnder asked left faults last is_faultless opened rest status)

-- a run of a file's script, or none where the file couldn't be opened
abbrev pub IsPlayedOfFile : Asked → Option (List ℕ) → (OpenFault → Type 0) → Type 0 → Type 0
    → (List ℕ → Type 0) → Status → Log → Type 0
IsPlayedOfFile asked told refuses silent reads writes status log =
    IsUnopened refuses silent status log ⊎ IsPlayed asked told reads writes status log

-- A RUN OF THE SOURCE THAT THE WORDS NAME: of standard input, or of a file, and then standard input
-- is left as it was
abbrev pub IsPlayedFrom : Asked → Option (List ℕ) → Option (List ℕ) → Type 0 → Type 0
    → (List ℕ → Option (List ℕ)) → (List ℕ → OpenFault → Type 0) → Type 0
    → (List ℕ → Type 0) → (List ℕ → Type 0) → Status → Log → Type 0
IsPlayedFrom asked None told unread reads of_file refuses silent reads_file writes status log =
    IsPlayed asked told reads writes status log
IsPlayedFrom asked (Some name) told unread reads of_file refuses silent reads_file writes status log =
    unread × IsPlayedOfFile asked (of_file name) (refuses name) silent (reads_file name) writes status
    log

-- WHAT THE PROGRAM TELLS of its words, its files and its streams. The words ask for nothing, and
-- nothing is touched but standard error; or for a page of the help; or for a run; or for a work with
-- what is read; or for an echo; or for a gateway
pub record IsServed (texts : List (List ℕ)) (unread silent unmade : Type 0) (writes : List ℕ → Type 0)
    (plays : Asked → Log → Type 0) (works : Work → Log → Type 0) (echoes : Log → Type 0)
    (serves : ℕ → Log → Type 0)
    (tells : List ℕ → Type 0) (status : Status) : Type 0 where
  -- the journal of the run
  pub log : Log
  -- where the words ask for nothing the status says what is wrong, or memory was refused
  pub other_words : IfNone (request_by texts) (IsUsageOrRefused texts status × IsEmptyLog log)
  -- and no stream but standard error is touched
  pub untouched : IfNone (request_by texts) (unread × silent)
  -- a page that is asked for
  pub shown : IfShow (request_by texts) (λ page. IsShown page unread writes status log)
  -- a run that is asked for
  pub played : IfPlay (request_by texts) (λ asked. plays asked log)
  -- a work that is asked for
  pub worked : IfWork (request_by texts) (λ work. works work log)
  -- an echo that is asked for
  pub echoed : IfEcho (request_by texts) (echoes log)
  -- a gateway that is asked for
  pub served : IfServe (request_by texts) (λ clients. serves clients log)
  -- no file is made but where the words keep the journal of a gateway in one
  pub no_file : journal_by texts ≡ None → unmade
  -- the journal is legal
  pub legal : IsLegalSomehow log.steps
  -- the line on standard error, by the words, the status and the journal
  pub line : tells (line_by texts status log)
