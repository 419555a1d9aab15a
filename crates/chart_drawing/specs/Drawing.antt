-- The drawing of a chart.
use Rattle.std.specs.Prelude.{◌≡◌, ℕ, ◌+◌, nat_le, List, [], ◌++◌, length, map, flat_map, codes}
use Rattle.std.specs.Prelude.{decimal, Result, Ok, Err, if◌then◌else◌}
use Rattle.linx_base.specs.declared.identity.ItemAt.{ItemAt}
use Rattle.svg_text.specs.declared.picture.Picture.{Picture}
use Rattle.svg_text.specs.declared.picture.Row.{Row}
use Rattle.svg_text.specs.declared.shape.Shape.{Shape}
use Rattle.chart.specs.declared.mark.Mark.{Mark}
use Rattle.chart.specs.declared.tie.Tie.{Tie}
use Rattle.chart_drawing.specs.declared.drawing.Chart.{Chart}
use Rattle.chart_drawing.specs.declared.drawing.DrawError.{DrawError}
use Rattle.chart_drawing.specs.declared.drawing.DrawError.TheVariants.{TooLong, TooWide}
use Rattle.chart_drawing.specs.declared.setting.Setting.{Setting}
use Rattle.chart_drawing.specs.declared.spot.Spot.{Spot}
use Rattle.chart_drawing.specs.declared.view.View.{View}
use Rattle.chart_drawing.specs.Arrows.{signal_arrows, comings}
use Rattle.chart_drawing.specs.Bands.{bands_of}
use Rattle.chart_drawing.specs.Bars.{bars_of}
use Rattle.chart_drawing.specs.Beside.{loops_with, loop_shape}
use Rattle.chart_drawing.specs.Ground.{node_shapes, link_shapes, stripe_shapes, actor_shapes}
use Rattle.chart_drawing.specs.Layout.{is_narrow, width_of}
use Rattle.chart_drawing.specs.Rows.{rows_of, labels_of, lines_of}
use Rattle.chart_drawing.specs.Seen.{setting_in}
use Rattle.chart_drawing.specs.Spots.{row_top, spots_of, standing_of, seen_of, ties_of}
use Rattle.chart_drawing.specs.Views.{steps_seen, ties_in, row_marks, has_above, rows_with}

-- boxes, lanes, stripes and lines of so many rows, from the back to the front
abbrev pub ground_of : Setting → ℕ → List Spot → List Shape
ground_of setting rows spots =
    flat_map (node_shapes setting rows) setting.nodes
    ++ flat_map (link_shapes setting rows) setting.links
    ++ flat_map (stripe_shapes setting) (seen_of spots)
    ++ flat_map (actor_shapes setting rows spots) setting.actors

-- WHAT LIES BEHIND THE ROWS: the ground, what lasts, and the ties
abbrev pub back_of : Setting → ℕ → List Tie → List Spot → List Shape
back_of setting rows ties spots =
    ground_of setting rows spots ++ bands_of setting rows spots
    ++ bars_of rows spots
    ++ map loop_shape (loops_with spots [] ties)
    ++ signal_arrows spots ties ++ comings spots (seen_of spots)

-- WHAT LIES IN FRONT OF THEM: the labels, and the lines of the journal at the left
abbrev pub front_of : Setting → List (List ℕ) → List Spot → List Shape
front_of setting lines seen = labels_of setting lines seen ++ lines_of setting.view lines seen

-- the picture of marks that stand at these spots, of so many rows, with these ties and lines; what
-- shares the row of a mark before lies nowhere but in it
abbrev pub picture_of : Setting → ℕ → List Tie → List (List ℕ) → List Spot → Picture
picture_of setting rows ties lines spots = record {
  width = width_of setting;
  height = row_top rows + 24;
  title = decimal rows ++ codes " rows";
  back = back_of setting rows ties (standing_of spots);
  rows = rows_of setting lines (seen_of spots);
  front = front_of setting lines (seen_of spots);
}

-- the ties that are drawn between these spots: those that reach into the window, and join a mark of
-- the makers
abbrev pub drawn_ties : View → List Spot → List Tie → List Tie
drawn_ties view spots ties =
    ties_of view.of (standing_of spots) (ties_in (steps_seen view.steps) ties)

-- how many rows a drawing has
abbrev pub row_count : View → List Mark → ℕ
row_count view marks =
    rows_with (has_above (steps_seen view.steps) marks) (length (row_marks view marks))

-- THE DRAWING OF A CHART: of what is seen by the setting's view
unfoldable pub drawing_of : Setting → Chart → Picture
drawing_of setting chart =
    picture_of setting (row_count setting.view chart.marks)
    (drawn_ties setting.view (spots_of setting chart.marks) chart.ties) chart.lines
    (spots_of setting chart.marks)

-- the drawing of a chart of which few enough rows are seen, or why there is none: more than 64 nodes,
-- links or actors are left
abbrev pub drawn_if_narrow : Setting → Chart → Result Picture DrawError
drawn_if_narrow setting chart =
    if is_narrow setting then Ok (drawing_of setting chart) else Err TooWide

-- the drawing of a chart in the columns that its view leaves, or why there is none: more than 6,000
-- marks begin rows, or there are too many columns
unfoldable pub drawn : Setting → Chart → Result Picture DrawError
drawn setting chart =
    if nat_le (length (row_marks setting.view chart.marks)) 6000
    then drawn_if_narrow (setting_in chart.marks setting) chart
    else Err TooLong

-- the line that a row is of
abbrev pub row_line : Row → ItemAt
row_line row = record { step = row.step; place = row.effect }

-- EACH OF THESE MARKS HAS ONE ROW, in the order of the marks
abbrev pub RowEachMark : List Row → List Mark → Type 0
RowEachMark rows marks = map row_line rows ≡ map (λ (m : Mark). m.line) marks
