-- From how a work ends to what was read and written.
use Rattle.std.proofs.Common.{◌≡◌, ◌≢◌, ℕ, ◌≤◌, ◌<◌, inl, inr, true, List, length, refl, subst, arith}
use Rattle.std.proofs.Common.{Option, Some, Ok, Err}
use Rattle.std.specs.Io.KnownBytes.{IsAtEnd}
use Rattle.command_words.specs.Charts.{makers_named}
use Rattle.command_words.specs.Requests.{wanted_of}
use Rattle.command_words.specs.declared.drawn.Drawn.{Drawn}
use Rattle.command_words.specs.declared.request.Request.{Request}
use Rattle.command_words.specs.declared.request.Request.TheVariants as requests
use Rattle.command_words.specs.declared.work.Work.{Work}
use Rattle.command_words.specs.declared.work.Work.TheVariants.{Find, Seeds, Order, Replay, Check, Chart}
use Rattle.journal.specs.Logs.{Log}
use Rattle.linx_commands.specs.Causes.{is_of_writing}
use Rattle.linx_commands.specs.Checks.{IsCheckEnd, IsLegalInput, IsRefusedInput, check_status}
use Rattle.linx_commands.specs.Charts.{IsChartEnd, chart_by, chart_status}
use Rattle.linx_commands.specs.Printed.{IsOrderEnd, IsOrdered, IsUnreadText}
use Rattle.linx_commands.specs.Replays.{IsReplayEnd, IsSame, IsUnlike, IsUnlikeBy, replay_status}
use Rattle.linx_commands.specs.Runs.{IsEmptyLog}
use Rattle.linx_commands.specs.Statuses.{is_of_whole, is_silent}
use Rattle.linx_commands.specs.Streams.{IsScanned, ReadsUpTo, TakesAtMost, Writes}
use Rattle.linx_commands.specs.Works.{IfWork, IsEndOf, IsReadStop, most_of}
use Rattle.linx_commands.specs.declared.outcome.Status.{Status}
use Rattle.linx_commands.specs.declared.outcome.Status.TheVariants.{Done, ReadFault, WriteFault}
use Rattle.linx_commands.specs.declared.outcome.Status.TheVariants.{JournalFull, NoMemory, FoundNone}
use Rattle.linx_commands.specs.declared.outcome.Status.TheVariants.{Script, Text, Unlike, Illegal}
use Rattle.linx_commands.specs.declared.outcome.Unlike.{Unlike as UnlikeBy}
use Rattle.linx_commands.specs.declared.outcome.Unlike.TheVariants.{Line, Filled}
use Rattle.text_charts.specs.declared.stop.ChartStop.{ChartStop}
use Rattle.text_charts.specs.declared.stop.ChartStop.TheVariants as chart_stops
use Rattle.text_check.specs.declared.stop.CheckStop.{CheckStop}
use Rattle.text_check.specs.declared.stop.CheckStop.TheVariants as check_stops
use Rattle.text_replay.specs.declared.stop.ReplayStop.{ReplayStop}
use Rattle.text_replay.specs.declared.stop.ReplayStop.TheVariants as stops
use Rattle.linx_commands.proofs.Searching.{short_report, short_search}

-- ---- what it read

-- where the order of a text is whole, so is the text
short_order : (bytes : List ℕ) (status : Status) (text : List ℕ) → IsOrderEnd bytes status text
    → is_of_whole status ≡ true → length bytes < 268435457
short_order bytes Done text ended whole =
    let within : length bytes ≤ 268435456 = ended.spelled.short in omega (arith, within)
short_order bytes WriteFault text ended whole =
    let within : length bytes ≤ 268435456 = ended.spelled.short in omega (arith, within)
short_order bytes (Text fault) text ended whole = cc
short_order bytes NoMemory text ended whole = cc
short_order bytes _ text ended whole = absurd ended

-- where the chart of a text is whole, so is the text
short_chart : (drawn : Drawn) (listed : Option (List ℕ)) (bytes : List ℕ) (status : Status)
    (text : List ℕ) → IsChartEnd drawn listed bytes status text → is_of_whole status ≡ true
    → length bytes < 268435457
short_chart drawn listed bytes Done text ended whole =
    let within : length bytes ≤ 268435456 = ended.short in omega (arith, within)
short_chart drawn listed bytes WriteFault text ended whole =
    let within : length bytes ≤ 268435456 = ended.short in omega (arith, within)
short_chart drawn listed bytes (Script line fault) text ended whole = cc
short_chart drawn listed bytes (Text fault) text ended whole = cc
short_chart drawn listed bytes NoMemory text ended whole = cc
short_chart drawn listed bytes _ text ended whole = absurd ended.says

-- where the replay of a text is whole, so is the text
short_unlike : (bytes : List ℕ) (unlike : UnlikeBy) → IsUnlikeBy bytes unlike
    → length bytes < 268435457
short_unlike bytes (Line line) ended =
    let within : length bytes ≤ 268435456 = ended.short in omega (arith, within)
short_unlike bytes Filled ended =
    let within : length bytes ≤ 268435456 = ended.short in omega (arith, within)

short_replay : (bytes : List ℕ) (status : Status) (text : List ℕ) → IsReplayEnd bytes status text
    → is_of_whole status ≡ true → length bytes < 268435457
short_replay bytes Done text ended whole =
    let within : length bytes ≤ 268435456 = ended.short in omega (arith, within)
short_replay bytes WriteFault text ended whole =
    let within : length bytes ≤ 268435456 = ended.short in omega (arith, within)
short_replay bytes (Unlike unlike) text ended whole = short_unlike bytes unlike ended
short_replay bytes (Script line fault) text ended whole = cc
short_replay bytes (Text fault) text ended whole = cc
short_replay bytes NoMemory text ended whole = cc
short_replay bytes _ text ended whole = absurd ended

-- where the check of a text is whole, so is the text
short_check : (bytes : List ℕ) (status : Status) (text : List ℕ) → IsCheckEnd bytes status text
    → is_of_whole status ≡ true → length bytes < 268435457
short_check bytes Done text ended whole =
    let within : length bytes ≤ 268435456 = ended.short in omega (arith, within)
short_check bytes WriteFault text ended whole =
    let within : length bytes ≤ 268435456 = ended.short in omega (arith, within)
short_check bytes (Illegal fault) text ended whole =
    let within : length bytes ≤ 268435456 = ended.short in omega (arith, within)
short_check bytes (Script line fault) text ended whole = cc
short_check bytes (Text fault) text ended whole = cc
short_check bytes NoMemory text ended whole = cc
short_check bytes _ text ended whole = absurd ended

-- a work whose status needs the whole input read fewer bytes than it may
short : (work : Work) (texts : List (List ℕ)) (bytes : List ℕ) (status : Status) (text : List ℕ)
    (log : Log) → IsEndOf work texts bytes status text log → is_of_whole status ≡ true
    → length bytes < most_of work
short (Find search) texts bytes status text log ended whole =
    short_search search (wanted_of search texts) bytes status text log ended whole
short (Seeds asked) texts bytes status text log ended whole =
    short_report asked.range bytes status text ended.ended whole
short Order texts bytes status text log ended whole =
    short_order bytes status text ended.ended whole
short Replay texts bytes status text log ended whole =
    short_replay bytes status text ended.ended whole
short Check texts bytes status text log ended whole =
    short_check bytes status text ended.ended whole
short (Chart drawn) texts bytes status text log ended whole =
    short_chart drawn (makers_named drawn texts) bytes status text ended.ended whole

fault_of_none : (work : Work) (texts : List (List ℕ)) (bytes text : List ℕ) (log : Log)
    → IsEndOf work texts bytes ReadFault text log → ⊥
fault_of_none (Find search) texts bytes text log ended = ended
fault_of_none (Seeds asked) texts bytes text log ended = ended.ended
fault_of_none Order texts bytes text log ended = ended.ended
fault_of_none Replay texts bytes text log ended = ended.ended
fault_of_none Check texts bytes text log ended = ended.ended
fault_of_none (Chart drawn) texts bytes text log ended = ended.ended.says

-- a work with bytes that were read ends by no fault of their source
no_fault : (work : Work) (texts : List (List ℕ)) (bytes : List ℕ) (status : Status)
    (text : List ℕ) (log : Log) → IsEndOf work texts bytes status text log → status ≢ ReadFault
no_fault work texts bytes status text log ended is =
    fault_of_none work texts bytes text log
    (subst (λ (s : Status). IsEndOf work texts bytes s text log) is ended)

-- what was read for a work
pub reads_ended : {S : Type 0} (left : S → Option (List ℕ)) (faults : S → ℕ) (last : Option ℕ)
    (is_faultless : S → Type 0) (old new : S) (work : Work) (texts : List (List ℕ))
    (bytes : List ℕ) (status : Status) (text : List ℕ) (log : Log)
    → IsEndOf work texts bytes status text log
    → (length bytes < most_of work → IsAtEnd (left new))
    → IsScanned (most_of work) (left old) (left new)
    → TakesAtMost (most_of work) (left old) (left new) → faults new ≡ faults old
    → (is_faultless old → is_faultless new)
    → ReadsUpTo (most_of work) left faults last is_faultless old new status
reads_ended left faults last is_faultless old new work texts bytes status text log ended whole
    scanned taken counts kept =
    let never : status ≢ ReadFault = no_fault work texts bytes status text log ended in
    record {
      whole = λ is. whole (short work texts bytes status text log ended is);
      scanned = λ is. scanned;
      taken = taken;
      faulted = λ is. absurd (never is);
      unfaulted = λ is. counts;
      never_falls = record { no_lower = omega (arith, counts); stands = λ stands. counts };
      faultless = λ is. (kept is, never);
    }

-- ---- what it wrote

-- nothing, where it is neither done nor met a fault of the sink
pub writes_none : {K : Type 0} (held : K → Option (List ℕ)) (faults : K → ℕ) (last : Option ℕ)
    (can_take : K → ℕ → Type 0) (out : K) (status : Status) (text : List ℕ) → status ≢ Done
    → status ≢ WriteFault → Writes held faults last can_take out out status text
writes_none held faults last can_take out status text undone unfailed = record {
  written = λ is. absurd (undone is);
  front = λ is. absurd (unfailed is);
  silent = λ is. refl;
  faulted = λ is. absurd (unfailed is);
  unfaulted = λ is. refl;
  never_falls = record { no_lower = omega arith; stands = λ is. refl };
  takes = λ room. unfailed;
}

-- a silent work isn't done
pub silent_undone : (status : Status) → is_silent status ≡ true → status ≢ Done
silent_undone status silent is =
    let same : is_silent Done ≡ true = subst (λ (s : Status). is_silent s ≡ true) is silent in cc

-- and met no fault of the sink
pub silent_unfailed : (status : Status) → is_silent status ≡ true → status ≢ WriteFault
silent_unfailed status silent is =
    let same : is_silent WriteFault ≡ true = subst (λ (s : Status). is_silent s ≡ true) is silent in
    cc

-- a work that had no input isn't done
pub stop_undone : (status : Status) → IsReadStop status → status ≢ Done
stop_undone status stop is = subst IsReadStop is stop

-- and met no fault of the sink
pub stop_unfailed : (status : Status) → IsReadStop status → status ≢ WriteFault
stop_unfailed status stop is = subst IsReadStop is stop

-- ---- the order of a printed text

-- the lines went out, or were to
pub order_written : (bytes : List ℕ) (status : Status) (text : List ℕ)
    → is_of_writing status ≡ true → IsOrdered bytes text → IsOrderEnd bytes status text
order_written bytes Done text writes ordered = ordered
order_written bytes WriteFault text writes ordered = ordered
order_written bytes NoMemory text writes ordered = tt
order_written bytes _ text writes ordered = cc

-- there was no text
pub order_unread : (bytes : List ℕ) (status : Status) (text : List ℕ) → IsUnreadText bytes status
    → IsOrderEnd bytes status text
order_unread bytes (Text fault) text unread = unread
order_unread bytes NoMemory text unread = tt
order_unread bytes _ text unread = absurd unread

-- and nothing was written of it
pub unread_undone : (bytes : List ℕ) (status : Status) → IsUnreadText bytes status → status ≢ Done
unread_undone bytes status unread is = subst (λ (s : Status). IsUnreadText bytes s) is unread

pub unread_unfailed : (bytes : List ℕ) (status : Status) → IsUnreadText bytes status
    → status ≢ WriteFault
unread_unfailed bytes status unread is = subst (λ (s : Status). IsUnreadText bytes s) is unread

-- ---- the replay of a printed text

-- what is said of it went out, or was to
pub replay_written : (bytes : List ℕ) (status : Status) (text : List ℕ)
    → is_of_writing status ≡ true → IsSame bytes text → IsReplayEnd bytes status text
replay_written bytes Done text writes same = same
replay_written bytes WriteFault text writes same = same
replay_written bytes NoMemory text writes same = tt
replay_written bytes _ text writes same = cc

-- no run of the script has it
pub replay_stopped : (bytes : List ℕ) (stop : ReplayStop) (text : List ℕ) → IsUnlike bytes stop
    → IsReplayEnd bytes (replay_status stop) text
replay_stopped bytes (stops.Bad line fault) text unlike = unlike
replay_stopped bytes (stops.Unread line) text unlike = unlike
replay_stopped bytes (stops.Full line) text unlike = unlike
replay_stopped bytes (stops.Other line) text unlike = unlike
replay_stopped bytes stops.JournalFull text unlike = unlike
replay_stopped bytes stops.NoMemory text unlike = tt

-- and nothing is written then
pub silent_replay : (stop : ReplayStop) → is_silent (replay_status stop) ≡ true
silent_replay (stops.Bad line fault) = refl
silent_replay (stops.Unread line) = refl
silent_replay (stops.Full line) = refl
silent_replay (stops.Other line) = refl
silent_replay stops.JournalFull = refl
silent_replay stops.NoMemory = refl

-- ---- the check of a printed text

-- what is said of it went out, or was to
pub check_written : (bytes : List ℕ) (status : Status) (text : List ℕ)
    → is_of_writing status ≡ true → IsLegalInput bytes text → IsCheckEnd bytes status text
check_written bytes Done text writes legal = legal
check_written bytes WriteFault text writes legal = legal
check_written bytes NoMemory text writes legal = tt
check_written bytes _ text writes legal = cc

-- it is that of no legal run of the script
pub check_stopped : (bytes : List ℕ) (stop : CheckStop) (text : List ℕ) → IsRefusedInput bytes stop
    → IsCheckEnd bytes (check_status stop) text
check_stopped bytes (check_stops.Bad line fault) text refused = refused
check_stopped bytes (check_stops.Unread line) text refused = refused
check_stopped bytes (check_stops.Full line) text refused = refused
check_stopped bytes (check_stops.Illegal fault) text refused = refused
check_stopped bytes (check_stops.Log line) text refused = refused
check_stopped bytes check_stops.NoMemory text refused = tt

-- and nothing is written then
pub silent_check : (stop : CheckStop) → is_silent (check_status stop) ≡ true
silent_check (check_stops.Bad line fault) = refl
silent_check (check_stops.Unread line) = refl
silent_check (check_stops.Full line) = refl
silent_check (check_stops.Illegal fault) = refl
silent_check (check_stops.Log line) = refl
silent_check check_stops.NoMemory = refl

-- ---- the chart of a printed text

-- it went out, or was to
pub chart_written : (drawn : Drawn) (listed : Option (List ℕ)) (bytes : List ℕ) (status : Status)
    (text : List ℕ) → is_of_writing status ≡ true → length bytes ≤ 268435456
    → chart_by drawn listed bytes ≡ Ok text → IsChartEnd drawn listed bytes status text
chart_written drawn listed bytes Done text writes short is = record { short = short; says = is }
chart_written drawn listed bytes WriteFault text writes short is =
    record { short = short; says = is }
chart_written drawn listed bytes NoMemory text writes short is =
    record { short = short; says = tt }
chart_written drawn listed bytes _ text writes short is = cc

-- there is none
pub chart_stopped : (drawn : Drawn) (listed : Option (List ℕ)) (bytes : List ℕ) (stop : ChartStop)
    (text : List ℕ) → length bytes ≤ 268435456
    → (stop ≢ chart_stops.NoMemory → chart_by drawn listed bytes ≡ Err stop)
    → IsChartEnd drawn listed bytes (chart_status stop) text
chart_stopped drawn listed bytes (chart_stops.Bad line fault) text short is =
    record { short = short; says = is (λ no. cc) }
chart_stopped drawn listed bytes (chart_stops.Unread line) text short is =
    record { short = short; says = is (λ no. cc) }
chart_stopped drawn listed bytes (chart_stops.Full line) text short is =
    record { short = short; says = is (λ no. cc) }
chart_stopped drawn listed bytes chart_stops.TooLong text short is =
    record { short = short; says = is (λ no. cc) }
chart_stopped drawn listed bytes chart_stops.TooWide text short is =
    record { short = short; says = is (λ no. cc) }
chart_stopped drawn listed bytes chart_stops.NoMemory text short is =
    record { short = short; says = tt }

-- and nothing is written then
pub silent_chart : (stop : ChartStop) → is_silent (chart_status stop) ≡ true
silent_chart (chart_stops.Bad line fault) = refl
silent_chart (chart_stops.Unread line) = refl
silent_chart (chart_stops.Full line) = refl
silent_chart chart_stops.TooLong = refl
silent_chart chart_stops.TooWide = refl
silent_chart chart_stops.NoMemory = refl

-- ---- where none is asked for

-- nothing is to be shown of it
pub never_worked : (request : Option Request) (holds : Work → Type 0) → IfWork request (λ work. ⊥)
    → IfWork request holds
never_worked (Some (requests.Work work)) holds never = absurd never
never_worked _ holds never = tt
