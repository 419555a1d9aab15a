-- THE CHART OF BYTES, in each kind, or why there is none.
use Rattle.std.specs.Prelude.{ℕ, List, Result, Ok, Err}
use Rattle.chart_drawing.specs.declared.drawing.DrawError.{DrawError}
use Rattle.chart_drawing.specs.declared.drawing.DrawError.TheVariants as draws
use Rattle.chart_drawing.specs.declared.setting.Setting.{Setting}
use Rattle.chart_drawing.specs.declared.view.View.{View}
use Rattle.chart_map.specs.Maps.{map_in}
use Rattle.chart_page.specs.Pages.{page_round}
use Rattle.journal.specs.declared.effect.Step.{Step}
use Rattle.journal_charts.specs.Charts.{svg_in}
use Rattle.text_charts.specs.Told.{Told, told_of}
use Rattle.text_charts.specs.declared.kind.Kind.{Kind}
use Rattle.text_charts.specs.declared.kind.Kind.TheVariants.{Picture, Page, Map}
use Rattle.text_charts.specs.declared.stop.ChartStop.{ChartStop}
use Rattle.text_charts.specs.declared.stop.ChartStop.TheVariants.{TooLong, TooWide, NoMemory}

-- the page round a picture, where there is one
abbrev pub page_if : Result (List ℕ) DrawError → Result (List ℕ) DrawError
page_if (Ok svg) = Ok (page_round svg)
page_if (Err e) = Err e

-- THE CHART OF A KIND, of these steps in a setting, beside the rows of this text, or why there is none
abbrev pub chart_in_kind : Kind → Setting → List ℕ → List Step → Result (List ℕ) DrawError
chart_in_kind Picture setting text S = svg_in setting text S
chart_in_kind Page setting text S = page_if (svg_in setting text S)
chart_in_kind Map setting text S = map_in setting text S

-- why there is no chart, where it isn't drawn
abbrev pub draw_stop : DrawError → ChartStop
draw_stop draws.TooLong = TooLong
draw_stop draws.TooWide = TooWide
draw_stop draws.NoMemory = NoMemory

-- what is drawn, or why nothing is
abbrev pub drawn_or_stop : Result (List ℕ) DrawError → Result (List ℕ) ChartStop
drawn_or_stop (Ok chart) = Ok chart
drawn_or_stop (Err e) = Err (draw_stop e)

-- the chart of a kind, of what is told, if anything is
abbrev pub drawn_told : Kind → Result Told ChartStop → Result (List ℕ) ChartStop
drawn_told kind (Ok told) = drawn_or_stop (chart_in_kind kind told.setting told.text told.steps)
drawn_told kind (Err stop) = Err stop

-- THE CHART OF BYTES in a kind, of which so much is seen, or why there is none
abbrev pub drawn_of : Kind → View → List ℕ → Result (List ℕ) ChartStop
drawn_of kind view bytes = drawn_told kind (told_of view bytes)
