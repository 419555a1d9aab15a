-- The words of errors.
use Rattle.std.specs.Prelude.{ℕ, List, codes}
use Rattle.chart_drawing.specs.declared.drawing.DrawError.{DrawError}
use Rattle.chart_drawing.specs.declared.drawing.DrawError.TheVariants.{TooLong, TooWide, NoMemory}

-- why a chart isn't drawn
abbrev pub draw_error_text : DrawError → List ℕ
draw_error_text TooLong = codes "more rows than a chart has"
draw_error_text TooWide = codes "more columns than a chart has"
draw_error_text NoMemory = codes "out of memory"
