-- How the chart of a printed text ends, of an input that has the text alone, or before it a script.
use Rattle.std.specs.Prelude.{ℕ, ◌≡◌, ◌+◌, ◌≤◌, ◌<◌, List, length, Option, Result, Ok, Err}
use Rattle.std.specs.Prelude.{option_map, option_and_then}
use Rattle.chart_drawing.specs.declared.view.Steps.{Steps}
use Rattle.chart_drawing.specs.declared.view.View.{View}
use Rattle.command_words.specs.declared.drawn.Drawn.{Drawn}
use Rattle.command_words.specs.declared.drawn.Kind.{Kind}
use Rattle.command_words.specs.declared.drawn.Kind.TheVariants as kinds
use Rattle.command_words.specs.declared.range.Range.{Range}
use Rattle.journal.specs.declared.by.By.{By}
use Rattle.maker_words.specs.Makers.{makers_spelled}
use Rattle.text_charts.specs.Drawn.{drawn_of}
use Rattle.text_charts.specs.declared.kind.Kind.{Kind as ChartKind}
use Rattle.text_charts.specs.declared.kind.Kind.TheVariants.{Picture, Page, Map}
use Rattle.text_charts.specs.declared.stop.ChartStop.{ChartStop}
use Rattle.text_charts.specs.declared.stop.ChartStop.TheVariants as stops
use Rattle.linx_commands.specs.Printed.{text_most}
use Rattle.linx_commands.specs.declared.outcome.Status.{Status}
use Rattle.linx_commands.specs.declared.outcome.Status.TheVariants.{Done, Script, WriteFault}
use Rattle.linx_commands.specs.declared.outcome.Status.TheVariants.{NoMemory, Text}
use Rattle.linx_commands.specs.declared.outcome.TextFault.TheVariants.{Bad, Full, Long, Rows, Lanes}

-- the steps of a range
abbrev pub steps_in : Range → Steps
steps_in range = record { first = range.first; last = range.first + range.more }

-- the makers that a word lists, if one does
abbrev pub makers_in : Option (List ℕ) → Option (List By)
makers_in listed = option_and_then makers_spelled listed

-- what of a chart is asked for, by words of which one may list makers
abbrev pub view_of : Drawn → Option (List ℕ) → View
view_of drawn listed = record {
  plain = drawn.plain;
  fold = drawn.fold;
  steps = option_map steps_in drawn.steps;
  of = makers_in listed;
}

-- what a run is drawn as
abbrev pub kind_of : Kind → ChartKind
kind_of kinds.Picture = Picture
kind_of kinds.Page = Page
kind_of kinds.Map = Map

-- THE CHART THAT IS ASKED FOR, of these bytes: a picture, a page with one, or a map; or why there is
-- none
abbrev pub chart_by : Drawn → Option (List ℕ) → List ℕ → Result (List ℕ) ChartStop
chart_by drawn listed bytes = drawn_of (kind_of drawn.kind) (view_of drawn listed) bytes

-- how a chart ends that isn't drawn
abbrev pub chart_status : ChartStop → Status
chart_status (stops.Bad line fault) = Script line fault
chart_status (stops.Unread line) = Text (Bad line)
chart_status (stops.Full line) = Text (Full line)
chart_status stops.TooLong = Text Rows
chart_status stops.TooWide = Text Lanes
chart_status stops.NoMemory = NoMemory

-- what a status says of a chart, or of why there is none, and of the text that is written
abbrev pub SaysOf : Result (List ℕ) ChartStop → Status → List ℕ → Type 0
SaysOf chart Done text = chart ≡ Ok text
SaysOf chart WriteFault text = chart ≡ Ok text
SaysOf chart (Script line fault) text = chart ≡ Err (stops.Bad line fault)
SaysOf chart (Text (Bad line)) text = chart ≡ Err (stops.Unread line)
SaysOf chart (Text (Full line)) text = chart ≡ Err (stops.Full line)
SaysOf chart (Text Rows) text = chart ≡ Err stops.TooLong
SaysOf chart (Text Lanes) text = chart ≡ Err stops.TooWide
SaysOf chart NoMemory text = Unit {0}
SaysOf chart _ text = ⊥

-- what a status says of the chart of bytes that aren't too many, and of the text that is written
pub record IsDrawn (chart : Result (List ℕ) ChartStop) (bytes : List ℕ) (status : Status)
    (text : List ℕ) : Type 0 where
  pub short : length bytes ≤ text_most
  pub says : SaysOf chart status text

-- WHAT EACH STATUS SAYS of the chart of this input, and of the text that is written of it
abbrev pub IsChartEnd : Drawn → Option (List ℕ) → List ℕ → Status → List ℕ → Type 0
IsChartEnd drawn listed bytes (Text Long) text = text_most < length bytes
IsChartEnd drawn listed bytes status text = IsDrawn (chart_by drawn listed bytes) bytes status text
