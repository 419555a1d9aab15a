-- What the words of a command line ask for.
use Rattle.std.specs.Prelude.{◌==◌, ℕ, ◌+◌, ◌-◌, Bool, true, ◌&&◌, ◌||◌, false, not, List, []}
use Rattle.std.specs.Prelude.{◌∷◌, map, codes, drop, length, nat_le, nat_lt, String, string_bytes}
use Rattle.std.specs.Prelude.{slice_get, Option, Some, None, option_map, option_and_then}
use Rattle.std.specs.Prelude.{if◌then◌else◌}
use Rattle.std.specs.Str.{bytes_eq}
use Rattle.line_search.specs.declared.sought.Sought.{Sought}
use Rattle.line_search.specs.declared.sought.Sought.TheVariants.{Line, NoLine}
use Rattle.script_words.specs.Numbers.{number_spelled}
use Rattle.command_words.specs.Charts.{chart_by, whole_chart}
use Rattle.command_words.specs.Files.{is_file_name, is_no_name}
use Rattle.command_words.specs.Ranges.{ranged}
use Rattle.command_words.specs.Words.{called, is_help_flag}
use Rattle.command_words.specs.declared.page.Page.TheVariants as pages
use Rattle.command_words.specs.declared.request.Asked.{Asked}
use Rattle.command_words.specs.declared.request.Asked.TheVariants as asks
use Rattle.command_words.specs.declared.request.Request.{Request}
use Rattle.command_words.specs.declared.request.TurnOrder.TheVariants as orders
use Rattle.command_words.specs.declared.request.Request.TheVariants.{Show, Play, Work, Echo, Serve}
use Rattle.command_words.specs.declared.range.Range.{Range}
use Rattle.command_words.specs.declared.search.Search.{Search}
use Rattle.command_words.specs.declared.work.Report.{Report}
use Rattle.command_words.specs.declared.work.Work.{Work as Works}
use Rattle.command_words.specs.declared.work.Work.TheVariants as works
use Rattle.command_words.specs.declared.word.Word.{Word}
use Rattle.command_words.specs.declared.word.Word.TheVariants.{Run, Serial, Seed, Find, Seeds, Order}
use Rattle.command_words.specs.declared.word.Word.TheVariants.{Replay, Check, Chart, Gen, Stream, Gateway}
use Rattle.command_words.specs.declared.word.Word.TheVariants.{Help, Version}

-- what is asked for of a file
abbrev pub of_file : Request → List ℕ → Option Request
of_file request file = if is_file_name file then Some request else None

-- a gateway has 1 to 16 clients
abbrev pub clients_in : Option ℕ → Option ℕ
clients_in None = None
clients_in (Some n) = if nat_le 1 n && nat_le n 16 then Some n else None

-- the clients of a gateway that a word of one or two digits spells
abbrev pub clients_spelled : List ℕ → Option ℕ
clients_spelled word = if nat_lt 2 (length word) then None else clients_in (number_spelled word)

-- the run in the order of the number that a text spells
abbrev pub seeded : List ℕ → Option Asked
seeded text = option_map (λ n. asks.InOrder (orders.Seed n)) (number_spelled text)

-- the chart that the texts behind its word ask for
abbrev pub charts : List (List ℕ) → Option Request
charts texts = option_map (λ drawn. Work (works.Chart drawn)) (chart_by texts)

-- what a word alone asks for
abbrev pub asked_alone : Word → Option Request
asked_alone Run = Some (Play asks.Run)
asked_alone Serial = Some (Play (asks.InOrder orders.Fixed))
asked_alone Seed = None
asked_alone Find = None
asked_alone Seeds = None
asked_alone Order = Some (Work works.Order)
asked_alone Replay = Some (Work works.Replay)
asked_alone Check = Some (Work works.Check)
asked_alone Chart = Some (Work (works.Chart whole_chart))
asked_alone Gen = None
asked_alone Stream = Some Echo
asked_alone Gateway = None
asked_alone Help = Some (Show pages.All)
asked_alone Version = Some (Show pages.Version)

-- what a word and one argument, which is no flag, ask for
abbrev pub asked_with_plain : Word → List ℕ → Option Request
asked_with_plain Run argument = of_file (Play asks.Run) argument
asked_with_plain Serial argument = of_file (Play (asks.InOrder orders.Fixed)) argument
asked_with_plain Seed argument = option_map (λ asked. Play asked) (seeded argument)
asked_with_plain Find argument = None
asked_with_plain Seeds argument = None
asked_with_plain Order argument = of_file (Work works.Order) argument
asked_with_plain Replay argument = of_file (Work works.Replay) argument
asked_with_plain Check argument = of_file (Work works.Check) argument
asked_with_plain Chart argument = charts (argument ∷ [])
asked_with_plain Gen argument = option_map (λ n. Play (asks.Gen n)) (number_spelled argument)
asked_with_plain Stream argument = None
asked_with_plain Gateway argument = option_map (λ n. Serve n) (clients_spelled argument)
asked_with_plain Help argument = option_map (λ word. Show (pages.Of word)) (called argument)
asked_with_plain Version argument = None

-- what a word and one argument ask for: `WORD --help` is `help WORD`
abbrev pub asked_with : Word → List ℕ → Option Request
asked_with word argument =
    if is_help_flag argument then Some (Show (pages.Of word)) else asked_with_plain word argument

-- the text asks for the progress of many runs
abbrev pub is_progress : List ℕ → Bool
is_progress text = bytes_eq text (codes "progress")

-- the request for a report of a range, with or without its progress
abbrev pub report_over : Bool → Range → Request
report_over progress range =
    Work (works.Seeds (record { range = range; progress = progress }))

-- that of the range that two texts spell
abbrev pub reported : Bool → List ℕ → List ℕ → Option Request
reported progress from to = option_map (λ range. report_over progress range) (ranged from to)

-- the same of a file
abbrev pub reported_of : Bool → List ℕ → List ℕ → List ℕ → Option Request
reported_of progress from to file =
    option_and_then (λ request. of_file request file) (reported progress from to)

-- THE REPORT of the range that two texts spell, by those behind them: `progress`, and a file
abbrev pub report_behind : List ℕ → List ℕ → List (List ℕ) → Option Request
report_behind from to [] = reported false from to
report_behind from to (word ∷ []) =
    if is_progress word then reported true from to else reported_of false from to word
report_behind from to (word ∷ file ∷ []) =
    if is_progress word then reported_of true from to file else None
report_behind from to _ = None

-- what a word, an argument and a file ask for, or a word and two arguments
abbrev pub asked_with_file : Word → List ℕ → List ℕ → Option Request
asked_with_file Seed argument file =
    option_and_then (λ asked. of_file (Play asked) file) (seeded argument)
asked_with_file Seeds argument file = reported false argument file
asked_with_file Chart argument file = charts (argument ∷ file ∷ [])
asked_with_file _ argument file = None

-- a gateway whose journal is kept in a file: behind the number of its clients stand `--journal` and
-- the file
abbrev pub kept : List ℕ → List ℕ → List ℕ → Option Request
kept number flag file =
    if not (bytes_eq flag (codes "--journal")) || is_no_name file
    then None
    else option_map (λ n. Serve n) (clients_spelled number)

-- a search for so many words: one to eight
abbrev pub fitting : Search → List (List ℕ) → Option Search
fitting search wanted =
    if nat_le 1 (length wanted) && nat_le (length wanted) 8 then Some search else None

-- a search for the words behind its range and its file: for a line that says them, or behind `not`
-- for none that does
abbrev pub sought_by : Search → List (List ℕ) → Option Search
sought_by search [] = fitting search []
sought_by search (first ∷ rest) =
    if bytes_eq first (codes "not")
    then fitting (record search { sought = NoLine }) rest
    else fitting search (first ∷ rest)

-- a search in the script of the file that the first word names
abbrev pub with_file : Search → List (List ℕ) → Option Search
with_file search [] = None
with_file search (file ∷ rest) =
    if is_file_name file then sought_by (record search { in_file = true }) rest else None

-- a search by the words behind its range and `progress`: in the script of a file behind `in`, or in
-- that of standard input
abbrev pub search_behind : Search → List (List ℕ) → Option Search
search_behind search [] = sought_by search []
search_behind search (first ∷ rest) =
    if bytes_eq first (codes "in")
    then with_file search rest
    else sought_by search (first ∷ rest)

-- a search by the words behind its range, of which `progress` may be the first
abbrev pub search_told : Search → List (List ℕ) → Option Search
search_told search [] = search_behind search []
search_told search (first ∷ rest) =
    if is_progress first
    then search_behind (record search { progress = true }) rest
    else search_behind search (first ∷ rest)

-- a search for a line over a range, by the words behind it
abbrev pub search_over : Range → List (List ℕ) → Option Search
search_over range behind = search_told (record {
  first = range.first;
  more = range.more;
  progress = false;
  in_file = false;
  sought = Line;
}) behind

-- the search of the range that two texts spell, by the words behind it
abbrev pub searched : List ℕ → List ℕ → List (List ℕ) → Option Search
searched from to behind = option_and_then (λ range. search_over range behind) (ranged from to)

-- what the texts behind `find` ask for
abbrev pub find_by : List (List ℕ) → Option Request
find_by (from ∷ to ∷ behind) =
    option_map (λ search. Work (works.Find search)) (searched from to behind)
find_by _ = None

-- what the texts behind `seeds` ask for
abbrev pub seeds_by : List (List ℕ) → Option Request
seeds_by (from ∷ to ∷ behind) = report_behind from to behind
seeds_by _ = None

-- what the texts behind `gateway` ask for, which keeps its journal
abbrev pub gateway_by : List (List ℕ) → Option Request
gateway_by (number ∷ flag ∷ file ∷ []) = kept number flag file
gateway_by _ = None

-- what a word asks for with three texts behind it, or more
abbrev pub asked_with_more : Word → List (List ℕ) → Option Request
asked_with_more Find texts = find_by texts
asked_with_more Seeds texts = seeds_by texts
asked_with_more Gateway texts = gateway_by texts
asked_with_more Chart texts = charts texts
asked_with_more _ texts = None

-- what a word asks for with the texts behind it
abbrev pub asked_behind : Word → List (List ℕ) → Option Request
asked_behind word [] = asked_alone word
asked_behind word (argument ∷ []) = asked_with word argument
asked_behind word (argument ∷ file ∷ []) = asked_with_file word argument file
asked_behind word texts = asked_with_more word texts

-- what these texts ask for: nothing where they are those of no command
abbrev pub request_by : List (List ℕ) → Option Request
request_by [] = None
request_by (word ∷ texts) = option_and_then (λ w. asked_behind w texts) (called word)

-- what the words of a command line ask for, if they ask for anything
abbrev pub request_of : {Z : Type 0} → List (String Z) → Option Request
request_of words = request_by (map string_bytes words)

-- a line says each second how many runs a work made
abbrev pub tells_progress : Works → Bool
tells_progress (works.Find search) = search.progress
tells_progress (works.Seeds report) = report.progress
tells_progress _ = false

-- the place behind `progress`, where it stands at this one
abbrev pub behind_progress : Bool → ℕ → ℕ
behind_progress true place = place + 1
behind_progress false place = place

-- the place, from 0, of the file among the texts of a search: behind its `in`
abbrev pub search_file_place : Search → Option ℕ
search_file_place search =
    if search.in_file then Some (behind_progress search.progress 4) else None

-- the place of the file among those of a report: behind its range and `progress`
abbrev pub report_file_place : Report → ℕ
report_file_place report = behind_progress report.progress 3

-- the place, from 0, of the file among the texts of what reads one: behind the word, behind the
-- number of `seed`, or where a search, a report or a chart has it
abbrev pub file_place : Option Request → Option ℕ
file_place (Some (Play asks.Run)) = Some 1
file_place (Some (Play (asks.InOrder orders.Fixed))) = Some 1
file_place (Some (Play (asks.InOrder (orders.Seed n)))) = Some 2
file_place (Some (Work (works.Find search))) = search_file_place search
file_place (Some (Work (works.Seeds report))) = Some (report_file_place report)
file_place (Some (Work works.Order)) = Some 1
file_place (Some (Work works.Replay)) = Some 1
file_place (Some (Work works.Check)) = Some 1
file_place (Some (Work (works.Chart drawn))) = drawn.file
file_place _ = None

-- the file that a text names, which may be missing: none by `-`
abbrev pub file_in : Option (List ℕ) → Option (List ℕ)
file_in None = None
file_in (Some file) = if bytes_eq file (codes "-") then None else Some file

-- the file that is named at a place of these texts
abbrev pub file_at : List (List ℕ) → ℕ → Option (List ℕ)
file_at texts place = file_in (slice_get texts place)

-- the file that these texts name; none where standard input is read
abbrev pub file_by : List (List ℕ) → Option (List ℕ)
file_by texts = option_and_then (λ place. file_at texts place) (file_place (request_by texts))

-- the file that the words name
abbrev pub file_of : {Z : Type 0} → List (String Z) → Option (List ℕ)
file_of words = file_by (map string_bytes words)

-- the file in which the journal of what is asked for by these texts is kept: that of a gateway may
-- stand behind its word, its number and `--journal`
abbrev pub journal_in : Option Request → List (List ℕ) → Option (List ℕ)
journal_in (Some (Serve clients)) texts = slice_get texts 3
journal_in _ texts = None

-- the file in which these texts keep the journal of a gateway; none where they keep no journal
abbrev pub journal_by : List (List ℕ) → Option (List ℕ)
journal_by texts = journal_in (request_by texts) texts

-- the file in which the words keep it
abbrev pub journal_of : {Z : Type 0} → List (String Z) → Option (List ℕ)
journal_of words = journal_by (map string_bytes words)

-- the place behind `not`, where it stands at this one
abbrev pub wanted_place_by : Sought → ℕ → ℕ
wanted_place_by Line place = place
wanted_place_by NoLine place = place + 1

-- the place, from 0, of the first text that is wanted of a line: behind the word, the range,
-- `progress`, the file and `not`
abbrev pub wanted_place : Search → ℕ
wanted_place search = wanted_place_by search.sought
    (behind_progress search.progress (if search.in_file then 5 else 3))

-- the texts that are wanted of a line, among those of a search
abbrev pub wanted_of : Search → List (List ℕ) → List (List ℕ)
wanted_of search texts = drop (wanted_place search) texts
