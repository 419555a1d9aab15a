-- What lasts in a column: an open endpoint from its opening to its closing, a wait to what its actor
-- does next, a session from up to down. What nothing ends lasts to the foot of the drawing.
use Rattle.std.specs.Prelude.{ℕ, ◌-◌, ◌*◌, ◌==◌, Bool, true, false, ◌&&◌, ◌||◌, if◌then◌else◌}
use Rattle.std.specs.Prelude.{List, [], ◌∷◌, ◌++◌, Option, Some, None, find}
use Rattle.svg_text.specs.declared.class.Class.{Class}
use Rattle.svg_text.specs.declared.class.Class.TheVariants.{Bar, Wait, Session}
use Rattle.svg_text.specs.declared.shape.Shape.{Shape}
use Rattle.svg_text.specs.declared.shape.Shape.TheVariants.{Box}
use Rattle.chart.specs.declared.column.Column.{Column}
use Rattle.chart.specs.declared.mark.MarkKind.{MarkKind}
use Rattle.chart.specs.declared.mark.MarkKind.TheVariants as kinds
use Rattle.chart_drawing.specs.declared.spot.Spot.{Spot}
use Rattle.chart_drawing.specs.Spots.{in_cell, same_column}

-- a mark closes an endpoint
abbrev pub is_closing : MarkKind → Bool
is_closing kinds.Closed = true
is_closing _ = false

-- a mark ends a session
abbrev pub is_down : MarkKind → Bool
is_down kinds.Down = true
is_down _ = false

-- the first of these marks that closes an endpoint in this column
abbrev pub closing_in : Column → List Spot → Option Spot
closing_in column spots =
    find (λ (s : Spot). same_column s.mark.column column && is_closing s.mark.kind) spots

-- the first in this column that its actor makes, or that closes its endpoint
abbrev pub going_on_in : Column → List Spot → Option Spot
going_on_in column spots =
    find (λ (s : Spot). same_column s.mark.column column
    && (s.mark.line.place == 0 || is_closing s.mark.kind)) spots

-- the first that ends a session in this column
abbrev pub down_in : Column → List Spot → Option Spot
down_in column spots =
    find (λ (s : Spot). same_column s.mark.column column && is_down s.mark.kind) spots

-- how far it is down to a spot, or to the foot below so many rows
abbrev pub reach : ℕ → Spot → Option Spot → ℕ
reach rows from None = 18 * (rows - from.row)
reach rows from (Some to) = 18 * (to.row - from.row)

-- a bar in the look of this class, from the line of a spot down, so far to the right of its cell's
-- edge; none where it has no height, since it begins and ends above a window or below it
abbrev pub bar : Class → Spot → ℕ → ℕ → ℕ → List Shape
bar class from left width height =
    if height == 0 then []
    else Box class (record { corner = in_cell from left 9; width = width; height = height }) ∷ []

-- what lasts from a mark on, before these marks
abbrev pub bars_at : ℕ → Spot → MarkKind → List Spot → List Shape
bars_at rows s kinds.Opened more =
    bar Bar s 27 10 (reach rows s (closing_in s.mark.column more))
bars_at rows s kinds.Waits more =
    bar Wait s 28 8 (reach rows s (going_on_in s.mark.column more))
bars_at rows s kinds.Up more = bar Session s 13 6 (reach rows s (down_in s.mark.column more))
bars_at rows s _ more = []

-- WHAT LASTS, of so many rows, in the order in which it begins
abbrev pub bars_of : ℕ → List Spot → List Shape
bars_of rows [] = []
bars_of rows (s ∷ more) = bars_at rows s s.mark.kind more ++ bars_of rows more
