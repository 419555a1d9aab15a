-- What stands over the strips of a map and at their left, and the frames of the strips.
use Rattle.std.specs.Prelude.{ℕ, zero, suc, ◌+◌, ◌-◌, ◌*◌, ◌/◌, nat_lt, List, [], ◌∷◌, ◌++◌, codes}
use Rattle.std.specs.Prelude.{decimal, if◌then◌else◌}
use Rattle.linx_base.specs.declared.identity.Side.TheVariants.{First, Second}
use Rattle.svg_text.specs.declared.class.Class.{Class}
use Rattle.svg_text.specs.declared.class.Class.TheVariants.{NodeCaption, Strong, Faint, Rail, Line}
use Rattle.svg_text.specs.declared.shape.Anchor.TheVariants.{Start, Middle, End}
use Rattle.svg_text.specs.declared.shape.Shape.{Shape}
use Rattle.svg_text.specs.declared.shape.Shape.TheVariants.{Box, Words}
use Rattle.chart_drawing.specs.declared.setting.DrawnActor.{DrawnActor}
use Rattle.chart_drawing.specs.declared.setting.DrawnLink.{DrawnLink}
use Rattle.chart_drawing.specs.declared.setting.DrawnNode.{DrawnNode}
use Rattle.chart_drawing.specs.declared.setting.Setting.{Setting}
use Rattle.chart_drawing.specs.Rows.{cut}
use Rattle.chart_drawing.specs.Spots.{point}
use Rattle.chart_map.specs.declared.grid.Grid.{Grid}
use Rattle.chart_map.specs.Grid.{first_position}
use Rattle.chart_map.specs.Layout.{box_left, box_width, lane_left, row_top, strip_left}
use Rattle.chart_map.specs.Layout.{strip_width, way_left, is_wide}

-- how many steps there are, and in a row, and what strong shades and orange say
abbrev pub heading_words : Grid → List ℕ
heading_words grid =
    decimal grid.steps ++ codes " steps, " ++ decimal grid.in_row
    ++ codes " in a row; stronger: more of them; orange: packets lost"

-- THE HEADING
abbrev pub heading : Grid → Shape
heading grid = Words Strong Start (point 66 20) (heading_words grid)

-- a caption of a node or a link, in a box
abbrev pub caption_shapes : ℕ → ℕ → List ℕ → List Shape
caption_shapes left width name =
    Box NodeCaption (record { corner = point left 32; width = width; height = 20 })
    ∷ Words Strong Middle (point (left + width / 2) 46) (cut (width / 7) name) ∷ []

-- the caption of a node, over the strips of its actors
abbrev pub node_shapes : Setting → DrawnNode → List Shape
node_shapes setting n =
    caption_shapes (box_left setting n.node.0) (box_width setting n.node.0) n.name

-- the frame of a strip of so many rows
abbrev pub frame : ℕ → ℕ → ℕ → Shape
frame x width rows =
    Box Rail (record { corner = point x (row_top 0); width = width; height = 3 * rows })

-- words over a strip, at its middle
abbrev pub over : Class → ℕ → ℕ → List ℕ → Shape
over class middle y words = Words class Middle (point middle y) words

-- the number of an actor, over its strip
abbrev pub number_over : ℕ → ℕ → Shape
number_over middle actor = over Strong middle 66 (codes "A" ++ decimal actor)

-- what an actor is called, and what else is said of it, over its strip
abbrev pub names_over : ℕ → DrawnActor → List Shape
names_over middle a =
    over Strong middle 66 (cut 9 a.caption) ∷ over Faint middle 80 (cut 9 a.subcaption) ∷ []

-- AN ACTOR'S STRIP: its frame, and its names over it where there is room, else its number
abbrev pub actor_shapes : Setting → ℕ → DrawnActor → List Shape
actor_shapes setting rows a =
    frame (strip_left setting a) (strip_width setting - 3) rows
    ∷ (if is_wide setting
    then names_over (strip_left setting a + (strip_width setting - 3) / 2) a
    else number_over (strip_left setting a + (strip_width setting - 3) / 2) a.actor ∷ [])

-- the strip of a link's direction: its frame, and the mark of the direction
abbrev pub way_shapes : ℕ → ℕ → List ℕ → List Shape
way_shapes x rows mark = frame x 19 rows ∷ over Faint (x + 9) 66 mark ∷ []

-- A LINK'S STRIPS, and its caption over them
abbrev pub link_shapes : Setting → ℕ → DrawnLink → List Shape
link_shapes setting rows link =
    caption_shapes (lane_left setting link) 72 link.name
    ++ way_shapes (way_left setting link First) rows (codes ">")
    ++ way_shapes (way_left setting link Second) rows (codes "<")

-- the position of the first step of a row, at its left, where there is that row
abbrev pub number_shapes : Grid → ℕ → List Shape
number_shapes grid row =
    if nat_lt row grid.rows
    then Words Line End (point 58 (row_top row + 6)) (decimal (first_position grid row)) ∷ []
    else []

-- the positions of the first steps of each twentieth row, so many
abbrev pub row_numbers : Grid → ℕ → List Shape
row_numbers grid zero = []
row_numbers grid (suc k) = row_numbers grid k ++ number_shapes grid (20 * k)
