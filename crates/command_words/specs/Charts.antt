-- What the words behind `chart` ask for: `map` alone, or options in any order, each as often as one
-- likes, of which a later one stands in place of an earlier; and last a file.
use Rattle.std.specs.Prelude.{ℕ, ◌+◌, ◌==◌, Bool, true, false, List, [], ◌∷◌, codes, slice_get}
use Rattle.std.specs.Prelude.{Option, Some, None, option_map, option_and_then, if◌then◌else◌}
use Rattle.std.specs.Str.{bytes_eq}
use Rattle.script_words.specs.Numbers.{number_spelled}
use Rattle.maker_words.specs.Makers.{are_makers}
use Rattle.command_words.specs.Files.{is_file_name}
use Rattle.command_words.specs.Ranges.{range_over}
use Rattle.command_words.specs.declared.range.Range.{Range}
use Rattle.command_words.specs.declared.drawn.Kind.TheVariants as kinds
use Rattle.command_words.specs.declared.drawn.Drawn.{Drawn}
use Rattle.command_words.specs.declared.charting.Choice.{Choice}
use Rattle.command_words.specs.declared.charting.Choice.TheVariants.{Map, Page, Plain, Fold, Steps, Of}
use Rattle.command_words.specs.declared.charting.Awaited.{Awaited}
use Rattle.command_words.specs.declared.charting.Awaited.TheVariants.{Any, First, Last, Makers, File}
use Rattle.command_words.specs.declared.charting.Awaited.TheVariants.{Nothing}
use Rattle.command_words.specs.declared.charting.Charting.{Charting}

-- a picture of all rows, of the text that standard input holds
abbrev pub whole_chart : Drawn
whole_chart = record {
  kind = kinds.Picture;
  plain = false;
  fold = false;
  steps = None;
  of = None;
  file = None;
}

-- WHAT A TEXT CHOOSES; nothing where it names a file. A file of such a name is written as `./page`
unfoldable pub choice_of : List ℕ → Option Choice
choice_of text =
    if bytes_eq text (codes "map") then Some Map
    else if bytes_eq text (codes "page") then Some Page
    else if bytes_eq text (codes "plain") then Some Plain
    else if bytes_eq text (codes "fold") then Some Fold
    else if bytes_eq text (codes "steps") then Some Steps
    else if bytes_eq text (codes "of") then Some Of
    else None

-- what is asked for so far, behind which this may stand
abbrev pub awaiting : Drawn → Awaited → Option Charting
awaiting drawn awaited = Some (record { drawn = drawn; awaited = awaited })

-- WITH A CHOICE at a place, from 0, among all texts: `map` stands right behind `chart`, and behind it
-- a file alone; `page`, `plain` and `fold` stand for themselves; behind `steps` stand the first step
-- and the last, and behind `of` a list of makers
abbrev pub with_choice : Drawn → ℕ → Choice → Option Charting
with_choice drawn place Map =
    if place == 1 then awaiting (record drawn { kind = kinds.Map }) File else None
with_choice drawn place Page = awaiting (record drawn { kind = kinds.Page }) Any
with_choice drawn place Plain = awaiting (record drawn { plain = true }) Any
with_choice drawn place Fold = awaiting (record drawn { fold = true }) Any
with_choice drawn place Steps = awaiting drawn First
with_choice drawn place Of = awaiting drawn Makers

-- of the file that the text at a place names, behind which nothing stands
abbrev pub drawn_of_file : Drawn → ℕ → List ℕ → Option Charting
drawn_of_file drawn place text =
    if is_file_name text then awaiting (record drawn { file = Some place }) Nothing else None

-- of the makers that the text at a place lists
abbrev pub drawn_of_makers : Drawn → ℕ → List ℕ → Option Charting
drawn_of_makers drawn place text =
    if are_makers text then awaiting (record drawn { of = Some place }) Any else None

-- of a range of steps
abbrev pub drawn_over : Drawn → Option Range → Option Charting
drawn_over drawn None = None
drawn_over drawn (Some range) = awaiting (record drawn { steps = Some range }) Any

-- with a text that chooses, or names a file
abbrev pub with_any : Option Choice → Drawn → ℕ → List ℕ → Option Charting
with_any (Some choice) drawn place text = with_choice drawn place choice
with_any None drawn place text = drawn_of_file drawn place text

-- with a text that may not choose, but names a file
abbrev pub with_no_choice : Option Choice → Drawn → ℕ → List ℕ → Option Charting
with_no_choice (Some choice) drawn place text = None
with_no_choice None drawn place text = drawn_of_file drawn place text

-- with the text at a place, where this may stand
abbrev pub with_awaited : Awaited → Drawn → ℕ → List ℕ → Option Charting
with_awaited Any drawn place text = with_any (choice_of text) drawn place text
with_awaited First drawn place text =
    option_and_then (λ n. awaiting drawn (Last n)) (number_spelled text)
with_awaited (Last first) drawn place text =
    drawn_over drawn (option_and_then (λ last. range_over first last) (number_spelled text))
with_awaited Makers drawn place text = drawn_of_makers drawn place text
with_awaited File drawn place text = with_no_choice (choice_of text) drawn place text
with_awaited Nothing drawn place text = None

-- what a chart is asked for with the text at a place
abbrev pub charting_with : Charting → ℕ → List ℕ → Option Charting
charting_with charting place text = with_awaited charting.awaited charting.drawn place text

-- what it is asked for with all texts from a place on
abbrev pub charting_by : ℕ → Option Charting → List (List ℕ) → Option Charting
charting_by place charting [] = charting
charting_by place charting (text ∷ texts) =
    charting_by (place + 1) (option_and_then (λ c. charting_with c place text) charting) texts

-- the chart, where this may stand behind its last text: neither a step nor makers may be lacking
abbrev pub without : Awaited → Drawn → Option Drawn
without First drawn = None
without (Last first) drawn = None
without Makers drawn = None
without _ drawn = Some drawn

-- the chart that is asked for, if no text is lacking
abbrev pub charted : Charting → Option Drawn
charted charting = without charting.awaited charting.drawn

-- THE CHART that the texts behind `chart` ask for, of which the first stands at place 1
abbrev pub chart_by : List (List ℕ) → Option Drawn
chart_by texts =
    option_and_then (λ c. charted c) (charting_by 1 (awaiting whole_chart Any) texts)

-- THE LIST OF MAKERS of a chart, among all texts of its line
abbrev pub makers_named : Drawn → List (List ℕ) → Option (List ℕ)
makers_named drawn texts = option_and_then (λ place. slice_get texts place) drawn.of
