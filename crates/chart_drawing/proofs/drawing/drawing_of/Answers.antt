use Rattle.std.proofs.Common.{◌≡◌, List, false, sym, ap, ◌∙◌, subst}
use Rattle.svg_text.specs.declared.picture.Picture.{Picture}
use Rattle.svg_text.specs.declared.picture.Row.{Row}
use Rattle.chart.specs.declared.mark.Mark.{Mark}
use Rattle.chart_drawing.specs.declared.spot.Spot.{Spot}
use Rattle.chart_drawing.specs.Drawing.{RowEachMark}
use Rattle.chart_drawing.specs.Rows.{rows_of}
use Rattle.chart_drawing.specs.Spots.{seen_of, spots_from}
use Rattle.chart_drawing.specs.Views.{row_marks}
use Rattle.chart_drawing.proofs.EachRow.{each_row}
use Rattle.chart_drawing.proofs.drawing.drawing_of.Goals as goal

pub returns-clause-one_row_each : goal.returns-clause-one_row_each
returns-clause-one_row_each c =
    let setting = c.args.setting.now in
    let marks = c.args.chart.now.marks in
    let first = c.rows_with.result in
    let lines = c.as_slice-2.result.now in
    let spots : c.deref-3.result.now ≡ spots_from setting 0 first false marks =
    c.deref-3.ensures.value ∙ c.in_ok-spots.ensures
    ∙ ap (λ (l : List Mark). spots_from setting 0 first false l) c.as_slice-marks.ensures in
    let rows : c.in_ok-picture.picture.rows
    ≡ rows_of setting lines (seen_of (spots_from setting 0 first false marks)) =
    ap (λ (p : Picture). p.rows) c.in_ok-picture.ensures
    ∙ ap (λ (l : List Spot). rows_of setting lines (seen_of l)) spots in
    subst (λ (l : List Row). RowEachMark l (row_marks setting.view marks)) (sym rows)
    (each_row setting lines 0 first false marks)
