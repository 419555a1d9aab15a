-- The map of a run.
use Rattle.std.specs.Prelude.{ℕ, ◌+◌, List, ◌∷◌, ◌++◌, length, take, flat_map, codes, decimal}
use Rattle.std.specs.Prelude.{Result, Ok, Err, if◌then◌else◌}
use Rattle.journal.specs.declared.effect.Step.{Step}
use Rattle.svg_text.specs.declared.picture.Picture.{Picture}
use Rattle.svg_text.specs.declared.picture.Row.{Row}
use Rattle.svg_text.specs.declared.shape.Shape.{Shape}
use Rattle.svg_text.specs.Texts.{picture_text}
use Rattle.chart.specs.Marks.{marks_of}
use Rattle.chart_drawing.specs.declared.drawing.DrawError.{DrawError}
use Rattle.chart_drawing.specs.declared.drawing.DrawError.TheVariants.{TooWide}
use Rattle.chart_drawing.specs.declared.setting.Setting.{Setting}
use Rattle.chart_drawing.specs.Layout.{is_narrow}
use Rattle.journal_charts.specs.Rows.{rows_in}
use Rattle.chart_map.specs.declared.grid.Grid.{Grid}
use Rattle.chart_map.specs.declared.rare.Rare.{Rare}
use Rattle.chart_map.specs.Beside.{first_y, rare_rows_from, notes_of}
use Rattle.chart_map.specs.Captions.{heading, node_shapes, actor_shapes, link_shapes, row_numbers}
use Rattle.chart_map.specs.Cells.{actor_cells, link_cells, shaded}
use Rattle.chart_map.specs.Grid.{grid_of}
use Rattle.chart_map.specs.Layout.{right_edge, height_of, label_room}
use Rattle.chart_map.specs.Rare.{rare_of}

-- captions, frames and the numbers of rows
abbrev pub captions_of : Setting → Grid → List Shape
captions_of setting grid =
    heading grid
    ∷ (flat_map (node_shapes setting) setting.nodes
    ++ flat_map (actor_shapes setting grid.rows) setting.actors
    ++ flat_map (link_shapes setting grid.rows) setting.links ++ row_numbers grid 12)

-- THE CELLS OF ALL STRIPS: actors beside each other, and links beside each other
abbrev pub strips_of : Setting → List Step → List Shape
strips_of setting S =
    shaded (flat_map (actor_cells setting S) setting.actors)
    ++ shaded (flat_map (link_cells setting S) setting.links)

-- what lies behind the rare lines
abbrev pub back_of : Setting → List Step → List Shape
back_of setting S = captions_of setting (grid_of S) ++ strips_of setting S

-- how many steps there are, in words
abbrev pub title_of : Grid → List ℕ
title_of grid = decimal grid.steps ++ codes " steps"

-- rare lines beside all strips
abbrev pub rows_beside : Setting → Grid → List (List ℕ) → List Rare → List Row
rows_beside setting grid lines rare =
    rare_rows_from (right_edge setting) grid lines (first_y grid (label_room grid.rows) rare) 0
    rare

-- THE RARE LINES THAT THERE IS ROOM FOR, the first ones
abbrev pub shown_of : Setting → Grid → List (List ℕ) → List Rare → List Row
shown_of setting grid lines rare =
    rows_beside setting grid lines (take (label_room grid.rows) rare)

-- what is said behind them
abbrev pub front_of : Setting → Grid → List Rare → List Shape
front_of setting grid rare =
    notes_of (right_edge setting) (label_room grid.rows) (length rare)

-- THE MAP OF THESE STEPS as a picture, in a setting and with these lines
abbrev pub picture_of : Setting → List (List ℕ) → List Step → Picture
picture_of setting lines S = record {
  width = right_edge setting + 340;
  height = height_of (grid_of S).rows;
  title = title_of (grid_of S);
  back = back_of setting S;
  rows = shown_of setting (grid_of S) lines (rare_of (marks_of S));
  front = front_of setting (grid_of S) (rare_of (marks_of S));
}

-- THE MAP OF THESE STEPS in a setting, with the words of this text, as SVG, or that it would be too wide
unfoldable pub map_in : Setting → List ℕ → List Step → Result (List ℕ) DrawError
map_in setting text S =
    if is_narrow setting then Ok (picture_text (picture_of setting (rows_in text) S))
    else Err TooWide
