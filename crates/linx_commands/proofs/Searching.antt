-- From what a search answers to how it ends.
use Rattle.std.proofs.Common.{◌≡◌, ◌≢◌, ℕ, ◌+◌, ◌≤◌, ◌<◌, inl, inr, true, List, length, refl, sym}
use Rattle.std.proofs.Common.{arith, None, Ok}
use Rattle.command_words.specs.declared.range.Range.{Range}
use Rattle.command_words.specs.declared.search.Search.{Search}
use Rattle.fabric.specs.declared.stop.StopCause.{StopCause}
use Rattle.fabric.specs.declared.stop.StopCause.TheVariants as stops
use Rattle.journal.specs.Logs.{Log}
use Rattle.order_lines.specs.Fronts.{OrderedParts, ordered_of}
use Rattle.order_lines.proofs.Lengths.{ordered_within}
use Rattle.seed_runs.specs.Runs.{IsStoppedRunOf}
use Rattle.seed_search.specs.Searches.{IsAmong, IsFirst, IsShown, ShowNothing, found_text}
use Rattle.order_lines.specs.Faults.{IsBadOf}
use Rattle.script_lang.specs.declared.script_error.ScriptError.{ScriptError}
use Rattle.script_lang.specs.declared.script_error.ScriptError.TheVariants as scripts
use Rattle.seed_report.specs.Reports.{IsReport}
use Rattle.linx_commands.specs.Causes.{is_of_writing, script_status, stop_status}
use Rattle.linx_commands.specs.Runs.{IsEmptyLog, IsLegalSomehow}
use Rattle.linx_commands.specs.Searches.{IsSearchEnd, IsSeedsEnd}
use Rattle.linx_commands.specs.Statuses.{is_of_whole, is_silent}
use Rattle.linx_commands.specs.declared.outcome.Status.{Status}
use Rattle.linx_commands.specs.declared.outcome.Status.TheVariants.{Done, Usage, Script, Unopened}
use Rattle.linx_commands.specs.declared.outcome.Status.TheVariants.{ReadFault, WriteFault}
use Rattle.linx_commands.specs.declared.outcome.Status.TheVariants.{JournalFull, NoMemory, Torn}
use Rattle.linx_commands.specs.declared.outcome.Status.TheVariants.{BadStream, FoundNone, Text}
use Rattle.linx_commands.specs.declared.outcome.Status.TheVariants.{Unlike, Illegal}
use Rattle.linx_commands.proofs.Answering.{legal-run}

-- ---- how it ends

-- a seed was found, and what is written of it went out, or was to
pub ended_found : (search : Search) (wanted : List (List ℕ)) (bytes : List ℕ) (status : Status)
    (seed : ℕ) (line : List ℕ) (log : Log) → is_of_writing status ≡ true
    → IsFirst bytes search.first search.more search.sought wanted seed line → IsEmptyLog log
    → IsSearchEnd search wanted bytes status (found_text seed line) log
ended_found search wanted bytes Done seed line log writes first empty = record {
  seed = seed;
  line = line;
  first = first;
  is = refl;
  empty = empty;
}
ended_found search wanted bytes WriteFault seed line log writes first empty = record {
  seed = seed;
  line = line;
  first = first;
  is = refl;
  empty = empty;
}
ended_found search wanted bytes NoMemory seed line log writes first empty = inl empty
ended_found search wanted bytes _ seed line log writes first empty = cc

-- a run stopped
pub ended_halted : (search : Search) (wanted : List (List ℕ)) (bytes : List ℕ) (cause : StopCause)
    (seed : ℕ) (text : List ℕ) (log : Log) → IsAmong search.first search.more seed
    → ShowNothing bytes search.sought wanted search.first seed
    → IsStoppedRunOf bytes seed cause log
    → IsSearchEnd search wanted bytes (stop_status cause) text log
ended_halted search wanted bytes stops.JournalFull seed text log among before stopped = record {
  seed = seed;
  among = among;
  before = before;
  stopped = stopped;
}
ended_halted search wanted bytes stops.NoMemory seed text log among before stopped =
    inr (record {
      seed = seed;
      among = among;
      before = before;
      stopped = stopped;
    })

-- where nothing is written
pub silent_stop : (cause : StopCause) → is_silent (stop_status cause) ≡ true
silent_stop stops.JournalFull = refl
silent_stop stops.NoMemory = refl

-- and its journal is legal
pub legal_halted : (bytes : List ℕ) (seed : ℕ) (cause : StopCause) (log : Log)
    → IsStoppedRunOf bytes seed cause log → IsLegalSomehow log.steps
legal_halted bytes seed cause log stopped =
    legal-run stopped.ordered.script stopped.run.run log stopped.run.so_far (sym stopped.run.logged)

-- ---- the report

-- it went out, or was to
pub report_written : (range : Range) (bytes : List ℕ) (status : Status) (text : List ℕ)
    → is_of_writing status ≡ true → IsReport bytes range.first range.more text
    → IsSeedsEnd range bytes status text
report_written range bytes Done text writes is = is
report_written range bytes WriteFault text writes is = is
report_written range bytes NoMemory text writes is = tt
report_written range bytes _ text writes is = cc

-- there was no script
pub report_unread : (range : Range) (bytes : List ℕ) (error : ScriptError) (text : List ℕ)
    → IsBadOf (ordered_of bytes) error → IsSeedsEnd range bytes (script_status error) text
report_unread range bytes (scripts.Bad line fault) text bad = bad
report_unread range bytes scripts.NoMemory text bad = tt

pub silent_unread : (error : ScriptError) → is_silent (script_status error) ≡ true
silent_unread (scripts.Bad line fault) = refl
silent_unread scripts.NoMemory = refl

-- where it is whole, so is the script
pub short_report : (range : Range) (bytes : List ℕ) (status : Status) (text : List ℕ)
    → IsSeedsEnd range bytes status text → is_of_whole status ≡ true → length bytes < 1048577
short_report range bytes Done text ended whole =
    let it = ended.has_actors in
    let within : length bytes ≤ 1048576 = ordered_within bytes it.ordered it.spelled in
    omega (arith, within)
short_report range bytes WriteFault text ended whole =
    let it = ended.has_actors in
    let within : length bytes ≤ 1048576 = ordered_within bytes it.ordered it.spelled in
    omega (arith, within)
short_report range bytes (Script line fault) text ended whole = cc
short_report range bytes NoMemory text ended whole = cc
short_report range bytes _ text ended whole = absurd ended

-- ---- what it read

-- bytes spell a script
record IsSpelled (bytes : List ℕ) : Type 0 where
  ordered : OrderedParts
  is : ordered_of bytes ≡ Ok ordered

spelled_none : (search : Search) (wanted : List (List ℕ)) (bytes : List ℕ)
    → IsShown bytes search.sought wanted search.first None → IsSpelled bytes
spelled_none search wanted bytes shown = record {
  ordered = shown.printed.run.ordered;
  is = shown.printed.run.spelled;
}

spelled : (search : Search) (wanted : List (List ℕ)) (bytes : List ℕ) (status : Status)
    (text : List ℕ) (log : Log) → IsSearchEnd search wanted bytes status text log
    → is_of_whole status ≡ true → IsSpelled bytes
spelled search wanted bytes Done text log ended whole = record {
  ordered = ended.first.shown.printed.run.ordered;
  is = ended.first.shown.printed.run.spelled;
}
spelled search wanted bytes WriteFault text log ended whole = record {
  ordered = ended.first.shown.printed.run.ordered;
  is = ended.first.shown.printed.run.spelled;
}
spelled search wanted bytes FoundNone text log ended whole =
    spelled_none search wanted bytes (ended.none search.first (omega arith) (omega arith))
spelled search wanted bytes JournalFull text log ended whole = record {
  ordered = ended.stopped.ordered;
  is = ended.stopped.spelled;
}
spelled search wanted bytes (Unlike how) text log ended whole = absurd ended
spelled search wanted bytes (Illegal fault) text log ended whole = absurd ended
spelled search wanted bytes _ text log ended whole = cc

-- a search whose status needs the whole script read bytes that are no more than a script has
pub short_search : (search : Search) (wanted : List (List ℕ)) (bytes : List ℕ) (status : Status)
    (text : List ℕ) (log : Log) → IsSearchEnd search wanted bytes status text log
    → is_of_whole status ≡ true → length bytes < 1048577
short_search search wanted bytes status text log ended whole =
    let it : IsSpelled bytes = spelled search wanted bytes status text log ended whole in
    let within : length bytes ≤ 1048576 = ordered_within bytes it.ordered it.is in
    omega (arith, within)
