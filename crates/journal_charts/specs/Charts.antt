-- The chart of a journal.
use Rattle.std.specs.Prelude.{ℕ, List, Result, Ok, Err}
use Rattle.linx_base.specs.declared.name.Names.{Names}
use Rattle.journal.specs.declared.effect.Step.{Step}
use Rattle.chart.specs.Marks.{marks_of}
use Rattle.chart.specs.AllTies.{all_ties}
use Rattle.chart_drawing.specs.declared.drawing.Chart.{Chart}
use Rattle.chart_drawing.specs.declared.drawing.DrawError.{DrawError}
use Rattle.chart_drawing.specs.declared.setting.Setting.{Setting}
use Rattle.chart_drawing.specs.declared.view.View.{View}
use Rattle.chart_drawing.specs.Drawing.{drawn}
use Rattle.svg_text.specs.declared.picture.Picture.{Picture}
use Rattle.svg_text.specs.Texts.{picture_text}
use Rattle.journal_charts.specs.Rows.{rows_in}
use Rattle.journal_charts.specs.Setting.{setting_of}

-- the marks and ties of these steps, with the words of a text's rows
abbrev pub rows_chart : List ℕ → List Step → Chart
rows_chart text S = record { marks = marks_of S; ties = all_ties S; lines = rows_in text }

-- the text of a picture, where there is one
abbrev pub text_if : Result Picture DrawError → Result (List ℕ) DrawError
text_if (Ok picture) = Ok (picture_text picture)
text_if (Err e) = Err e

-- THE CHART OF THESE STEPS in a setting, beside the rows of this text, as SVG, or why there is none
abbrev pub svg_in : Setting → List ℕ → List Step → Result (List ℕ) DrawError
svg_in setting text S = text_if (drawn setting (rows_chart text S))

-- THE CHART OF A JOURNAL of these names and steps, beside the rows of this text, or what of it is seen
-- by this view, as SVG, or why there is none
abbrev pub svg_of : Names → List ℕ → List Step → View → Result (List ℕ) DrawError
svg_of names text S view = svg_in (setting_of names S view) text S
