-- How marks on an actor's line and on a rail look. The line is 32 to the right of a cell's edge, a
-- rail 16, and both are 9 below its top in the middle of the row.
use Rattle.std.specs.Prelude.{ℕ, ◌+◌, List, [], ◌∷◌}
use Rattle.journal.specs.declared.head.SentTo.{SentTo}
use Rattle.journal.specs.declared.head.SentTo.TheVariants.{Queued, Link, Dead}
use Rattle.svg_text.specs.declared.shape.Shape.{Shape}
use Rattle.svg_text.specs.declared.shape.Shape.TheVariants.{Circle, Path}
use Rattle.svg_text.specs.declared.shape.Stroke.TheVariants.{Close}
use Rattle.svg_text.specs.declared.class.Class.TheVariants.{Dot, Mark, Wrong, Signal}
use Rattle.chart_drawing.specs.declared.spot.Spot.{Spot}
use Rattle.chart_drawing.specs.Spots.{in_cell, move, line}

-- a cross, 8 wide and high, from so far to the right on
abbrev pub cross : Spot → ℕ → Shape
cross spot left =
    Path Wrong (move spot left 5 ∷ line spot (left + 8) 13 ∷ move spot (left + 8) 5
    ∷ line spot left 13 ∷ [])

-- a level stroke
abbrev pub level : Spot → ℕ → ℕ → Shape
level spot left right = Path Mark (move spot left 9 ∷ line spot right 9 ∷ [])

-- a short stroke across the end of an arrow
abbrev pub upright : Spot → Shape
upright spot = Path Mark (move spot 37 6 ∷ line spot 37 12 ∷ [])

-- a circle of this radius in the middle of a row, with its middle so far to the right
abbrev pub ring : Spot → ℕ → ℕ → Shape
ring spot middle radius = Circle Mark (in_cell spot middle 9) radius

-- a dot on the line of an actor
abbrev pub dot : Spot → Shape
dot spot = Circle Dot (in_cell spot 32 9) 4

-- a signal that leaves, a little of its way
abbrev pub leaving : Spot → Shape
leaving spot = Path Signal (move spot 32 9 ∷ line spot 48 9 ∷ [])

-- a send: a dot; what goes over a link leaves, and what is sent to the dead ends at once
abbrev pub send_shapes : Spot → SentTo → List Shape
send_shapes spot Queued = dot spot ∷ []
send_shapes spot Link = dot spot ∷ []
send_shapes spot Dead = leaving spot ∷ dot spot ∷ cross spot 48 ∷ []

-- a take: a triangle from the queue to the line
abbrev pub take_shape : Spot → Shape
take_shape spot = Path Dot (move spot 37 4 ∷ line spot 28 9 ∷ line spot 37 14 ∷ Close ∷ [])

-- a receive that found nothing: a crossed circle
abbrev pub none_shapes : Spot → List Shape
none_shapes spot = ring spot 32 5 ∷ Path Wrong (move spot 26 15 ∷ line spot 38 3 ∷ []) ∷ []

-- a hunt: a diamond on the line of an actor
abbrev pub diamond : Spot → Shape
diamond spot =
    Path Mark (move spot 32 3 ∷ line spot 38 9 ∷ line spot 32 15 ∷ line spot 26 9 ∷ Close ∷ [])

-- an attach: a square on the line of an actor
abbrev pub square : Spot → Shape
square spot =
    Path Mark (move spot 27 4 ∷ line spot 37 4 ∷ line spot 37 14 ∷ line spot 27 14 ∷ Close ∷ [])

-- a detach: a square with a stroke
abbrev pub struck : Spot → Shape
struck spot =
    Path Mark (move spot 27 4 ∷ line spot 37 4 ∷ line spot 37 14 ∷ line spot 27 14 ∷ Close
    ∷ move spot 27 14 ∷ line spot 37 4 ∷ [])

-- what is done to a link or a node: a flat box
abbrev pub flat : Spot → Shape
flat spot =
    Path Mark (move spot 26 5 ∷ line spot 38 5 ∷ line spot 38 13 ∷ line spot 26 13 ∷ Close ∷ [])

-- the end of an actor: two level strokes
abbrev pub ended : Spot → Shape
ended spot =
    Path Mark (move spot 24 9 ∷ line spot 40 9 ∷ move spot 27 12 ∷ line spot 37 12 ∷ [])

-- a session that is lost
abbrev pub down_shape : Spot → Shape
down_shape spot = Path Wrong (move spot 10 9 ∷ line spot 22 9 ∷ [])

-- a peer that is met: a circle with a plus
abbrev pub met_shapes : Spot → List Shape
met_shapes spot =
    ring spot 16 6
    ∷ Path Mark (move spot 12 9 ∷ line spot 20 9 ∷ move spot 16 5 ∷ line spot 16 13 ∷ []) ∷ []

-- a peer that is gone: a circle with a minus
abbrev pub gone_shapes : Spot → List Shape
gone_shapes spot = ring spot 16 6 ∷ level spot 12 20 ∷ []
