-- Where each mark stands: in its row, and in the cell that begins at the left edge of its column.
use Rattle.std.specs.Prelude.{ℕ, ◌+◌, ◌*◌, ◌-◌, ◌==◌, Bool, true, false, not, ◌&&◌}
use Rattle.std.specs.Prelude.{if◌then◌else◌, List, [], ◌∷◌, ◌++◌, filter, Option, Some, None}
use Rattle.std.specs.Prelude.{slice_get, find, ◌||◌}
use Rattle.std.specs.List.Sorted.{IsNonDecreasingBy}
use Rattle.linx_base.specs.declared.identity.ItemAt.{ItemAt}
use Rattle.linx_base.specs.Peers.{same_position}
use Rattle.svg_text.specs.declared.shape.Point.{Point}
use Rattle.svg_text.specs.declared.shape.Stroke.{Stroke}
use Rattle.svg_text.specs.declared.shape.Stroke.TheVariants as strokes
use Rattle.chart.specs.declared.column.Column.{Column}
use Rattle.chart.specs.declared.column.Column.TheVariants.{Life, Rail}
use Rattle.chart.specs.declared.mark.Mark.{Mark}
use Rattle.chart.specs.declared.tie.Tie.{Tie}
use Rattle.journal.specs.declared.by.By.{By}
use Rattle.chart_drawing.specs.declared.setting.Setting.{Setting}
use Rattle.chart_drawing.specs.declared.spot.Spot.{Spot}
use Rattle.chart_drawing.specs.Layout.{column_left, is_turned}
use Rattle.chart_drawing.specs.Seen.{stands_in}
use Rattle.chart_drawing.specs.Views.{steps_seen, is_seen, is_of_makers, is_effect_if, is_folded}
use Rattle.chart_drawing.specs.Views.{quiet_with, has_above, row_behind, row_of_mark, rows_with}

-- the spot of a mark at this place, before these marks, where the next row has this number; it is
-- told where an effect comes next
abbrev pub spot_of : Setting → ℕ → ℕ → Bool → Mark → List Mark → Spot
spot_of setting place row quiet mark more = record {
  mark = mark;
  place = place;
  row = row_of_mark setting.view quiet row mark more;
  seen = is_seen setting.view mark;
  folded = is_folded setting.view quiet mark more;
  told = is_effect_if (slice_get more 0);
  x = column_left setting mark.column;
  turned = is_turned setting mark.column;
}

-- the spot of a mark that is seen, or that stands in a column that is; others have none
abbrev pub spot_if : Setting → ℕ → ℕ → Bool → Mark → List Mark → List Spot
spot_if setting place row quiet mark more =
    if is_seen setting.view mark || stands_in setting mark
    then spot_of setting place row quiet mark more ∷ [] else []

-- the spots of marks, from this place and this row on, behind a quiet mark or not
abbrev pub spots_from : Setting → ℕ → ℕ → Bool → List Mark → List Spot
spots_from setting place row quiet [] = []
spots_from setting place row quiet (mark ∷ more) =
    spot_if setting place row quiet mark more
    ++ spots_from setting (place + 1) (row_behind setting.view quiet row mark more)
    (quiet_with setting.view quiet mark more) more

-- THE SPOTS OF MARKS: each is in its row and in its column
abbrev pub spots_of : Setting → List Mark → List Spot
spots_of setting marks =
    spots_from setting 0 (rows_with (has_above (steps_seen setting.view.steps) marks) 0) false marks

-- the spots of the marks that share no row of a mark before
abbrev pub standing_of : List Spot → List Spot
standing_of spots = filter (λ (s : Spot). not s.folded) spots

-- the spots of the marks that are seen
abbrev pub seen_of : List Spot → List Spot
seen_of spots = filter (λ (s : Spot). s.seen) spots

-- the spot of a line
abbrev pub spot_at : List Spot → ItemAt → Option Spot
spot_at spots line = find (λ (s : Spot). same_position s.mark.line line) spots

-- the steps of the lines come in order
abbrev pub IsInOrder : List Spot → Type 0
IsInOrder spots = IsNonDecreasingBy (λ (s : Spot). s.mark.line.step) spots

-- there is a spot, and its mark is of one of these makers
abbrev pub is_spot_of : List By → Option Spot → Bool
is_spot_of makers None = false
is_spot_of makers (Some s) = is_of_makers makers s.mark

-- one of the marks that a tie joins has a spot, and is of one of the makers that are asked for, if any
-- are
abbrev pub is_tie_of : Option (List By) → List Spot → Tie → Bool
is_tie_of None spots t = true
is_tie_of (Some makers) spots t =
    is_spot_of makers (spot_at spots t.from) || is_spot_of makers (spot_at spots t.to)

-- THE TIES OF MAKERS: those that join a mark of theirs
abbrev pub ties_of : Option (List By) → List Spot → List Tie → List Tie
ties_of of spots ties = filter (λ (t : Tie). is_tie_of of spots t) ties

-- two columns are one
abbrev pub same_column : Column → Column → Bool
same_column (Life a) (Life b) = a == b
same_column (Rail l n) (Rail m o) = l.0 == m.0 && n.0 == o.0
same_column _ _ = false

-- the point so far to the right and so far down
abbrev pub point : ℕ → ℕ → Point
point x y = record { x = x; y = y }

-- how far down a row begins; rows are 18 high, and the first one is 78 below the edge
abbrev pub row_top : ℕ → ℕ
row_top row = 78 + 18 * row

-- a point of a spot's cell, so far to the right and so far down
abbrev pub in_cell : Spot → ℕ → ℕ → Point
in_cell spot right down = point (spot.x + right) (row_top spot.row + down)

-- a point of a lane, which is 156 wide; a turned one is seen from its other edge
abbrev pub in_lane : Spot → ℕ → ℕ → Point
in_lane spot along down =
    in_cell spot (if spot.turned then 156 - along else along) down

-- a point so far to the right in a spot's cell, and so far down in another spot's row
abbrev pub beside : Spot → Spot → ℕ → ℕ → Point
beside spot other right down = point (spot.x + right) (row_top other.row + down)

-- a stroke that begins at this point of a spot's cell
abbrev pub move : Spot → ℕ → ℕ → Stroke
move spot right down = strokes.Move (in_cell spot right down)

-- a straight stroke on to this point of a spot's cell
abbrev pub line : Spot → ℕ → ℕ → Stroke
line spot right down = strokes.Line (in_cell spot right down)

-- a stroke that begins at this point of a lane
abbrev pub lane_move : Spot → ℕ → ℕ → Stroke
lane_move spot along down = strokes.Move (in_lane spot along down)

-- a straight stroke on to this point of a lane
abbrev pub lane_line : Spot → ℕ → ℕ → Stroke
lane_line spot along down = strokes.Line (in_lane spot along down)
