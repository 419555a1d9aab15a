-- The cells of a map: a strip's part in a row, and how dark it is.
use Rattle.std.specs.Prelude.{ℕ, zero, suc, ◌+◌, ◌-◌, ◌/◌, ◌==◌, max, nat_lt, List, [], ◌∷◌, ◌++◌}
use Rattle.std.specs.Prelude.{flat_map, if◌then◌else◌}
use Rattle.linx_base.specs.declared.identity.Side.{Side}
use Rattle.linx_base.specs.declared.identity.Side.TheVariants.{First, Second}
use Rattle.journal.specs.declared.effect.Step.{Step}
use Rattle.svg_text.specs.declared.class.Class.{Class}
use Rattle.svg_text.specs.declared.class.Class.TheVariants.{Dot, ToldHead, Session, PacketHead, Wait}
use Rattle.svg_text.specs.declared.class.Class.TheVariants.{Wrong}
use Rattle.svg_text.specs.declared.shape.Area.{Area}
use Rattle.svg_text.specs.declared.shape.Shape.{Shape}
use Rattle.svg_text.specs.declared.shape.Shape.TheVariants.{Box}
use Rattle.chart_drawing.specs.declared.setting.DrawnActor.{DrawnActor}
use Rattle.chart_drawing.specs.declared.setting.DrawnLink.{DrawnLink}
use Rattle.chart_drawing.specs.declared.setting.Setting.{Setting}
use Rattle.chart_drawing.specs.Spots.{point}
use Rattle.chart_map.specs.declared.cells.Cell.{Cell}
use Rattle.chart_map.specs.declared.cells.Place.{Place}
use Rattle.chart_map.specs.declared.strips.Strip.{Strip}
use Rattle.chart_map.specs.declared.strips.Strip.TheVariants.{Actor, Way}
use Rattle.chart_map.specs.Grid.{grid_of, steps_of_row}
use Rattle.chart_map.specs.Layout.{row_top, strip_left, strip_width, way_left}
use Rattle.chart_map.specs.Tallies.{tally_of}

-- an area of a row, 3 high
abbrev pub area_at : ℕ → ℕ → ℕ → Area
area_at x row width = record { corner = point x (row_top row); width = width; height = 3 }

-- A STRIP'S PART IN A ROW: how many of the row's steps are the strip's
abbrev pub cell_of : List Step → Strip → Place → ℕ → Cell
cell_of S strip place row = record {
  area = area_at place.x row place.width;
  edge = area_at (place.x + place.width - 3) row 2;
  tally = tally_of strip (steps_of_row (grid_of S) S row);
}

-- the cells of a strip in the rows above this one, from the top down
abbrev pub cells_to : List Step → Strip → Place → ℕ → List Cell
cells_to S strip place zero = []
cells_to S strip place (suc row) =
    cells_to S strip place row ++ cell_of S strip place row ∷ []

-- where an actor's strip stands
abbrev pub actor_place : Setting → DrawnActor → Place
actor_place setting a =
    record { x = strip_left setting a; width = strip_width setting - 3 }

-- where the strip of a link's direction stands
abbrev pub way_place : Setting → DrawnLink → Side → Place
way_place setting link from = record { x = way_left setting link from; width = 19 }

-- the cells of an actor's strip
abbrev pub actor_cells : Setting → List Step → DrawnActor → List Cell
actor_cells setting S a =
    cells_to S (Actor a.actor) (actor_place setting a) (grid_of S).rows

-- the cells of the strip of a link's direction
abbrev pub way_cells : Setting → List Step → DrawnLink → Side → List Cell
way_cells setting S link from =
    cells_to S (Way link.link from) (way_place setting link from) (grid_of S).rows

-- the cells of both strips of a link
abbrev pub link_cells : Setting → List Step → DrawnLink → List Cell
link_cells setting S link =
    way_cells setting S link First ++ way_cells setting S link Second

-- the most steps that one of these cells has
abbrev pub most_of : List Cell → ℕ
most_of [] = 0
most_of (cell ∷ more) = max cell.tally.steps (most_of more)

-- HOW DARK A CELL IS, beside one that has the most: five levels, each for half of the next
abbrev pub level : ℕ → ℕ → Class
level most steps =
    if nat_lt (most / 2) steps then Dot
    else if nat_lt (most / 4) steps then ToldHead
    else if nat_lt (most / 8) steps then Session
    else if nat_lt (most / 16) steps then PacketHead
    else Wait

-- a cell, unless it is empty, and its edge where a packet is lost
abbrev pub cell_shapes : ℕ → Cell → List Shape
cell_shapes most cell =
    if cell.tally.steps == 0 then []
    else Box (level most cell.tally.steps) cell.area
    ∷ (if cell.tally.lost then Box Wrong cell.edge ∷ [] else [])

-- cells, as dark as they are beside each other
abbrev pub shaded : List Cell → List Shape
shaded cells = flat_map (cell_shapes (most_of cells)) cells
