-- What a drawing stands on: the boxes of nodes, the lanes of links, the lines of actors, and the
-- words over them.
use Rattle.std.specs.Prelude.{ℕ, ◌+◌, ◌*◌, ◌/◌, ◌%◌, ◌==◌, Bool, true, false, ◌&&◌, if◌then◌else◌}
use Rattle.std.specs.Prelude.{List, [], ◌∷◌, ◌++◌, Option, Some, None, find, codes}
use Rattle.svg_text.specs.declared.class.Class.{Class}
use Rattle.svg_text.specs.declared.class.Class.TheVariants.{Node, NodeCaption, Lane, Stripe, Life}
use Rattle.svg_text.specs.declared.class.Class.TheVariants.{Rail, Strong, Faint}
use Rattle.svg_text.specs.declared.shape.Anchor.TheVariants.{Middle}
use Rattle.svg_text.specs.declared.shape.Shape.{Shape}
use Rattle.svg_text.specs.declared.shape.Shape.TheVariants.{Box, Path, Words}
use Rattle.svg_text.specs.declared.shape.Stroke.TheVariants.{Move, Line}
use Rattle.chart.specs.declared.column.Column.{Column}
use Rattle.chart.specs.declared.column.Column.TheVariants as columns
use Rattle.chart.specs.declared.mark.MarkKind.{MarkKind}
use Rattle.chart.specs.declared.mark.MarkKind.TheVariants as kinds
use Rattle.chart_drawing.specs.declared.setting.DrawnNode.{DrawnNode}
use Rattle.chart_drawing.specs.declared.setting.DrawnLink.{DrawnLink}
use Rattle.chart_drawing.specs.declared.setting.DrawnActor.{DrawnActor}
use Rattle.chart_drawing.specs.declared.setting.Setting.{Setting}
use Rattle.chart_drawing.specs.declared.spot.Spot.{Spot}
use Rattle.chart_drawing.specs.Layout.{gap, box_left, box_width, lane_left, life_left, width_of}
use Rattle.chart_drawing.specs.Layout.{actors_on, earlier_end, later_end, node_of}
use Rattle.chart_drawing.specs.Rows.{cut}
use Rattle.chart_drawing.specs.Spots.{point, row_top, same_column}
use Rattle.chart_drawing.specs.Views.{is_part}

-- the foot of lines that nothing ends, 8 below so many rows
abbrev pub foot : ℕ → ℕ
foot rows = row_top rows + 8

-- words over a drawing
abbrev pub title_at : Class → ℕ → ℕ → List ℕ → Shape
title_at class x y words = Words class Middle (point x y) words

-- the ground of a node or a link
abbrev pub ground : Class → ℕ → ℕ → ℕ → Shape
ground class left width rows =
    Box class (record { corner = point left 66; width = width; height = 18 * rows + 28 })

-- a node has no box: in a part of a chart, where none of its actors is seen, and its rails alone have its name
abbrev pub is_bare : Setting → ℕ → Bool
is_bare setting node = is_part setting.view && actors_on setting node == 0

-- THE BOX OF A NODE, and its name over it
abbrev pub node_shapes : Setting → ℕ → DrawnNode → List Shape
node_shapes setting rows n =
    if is_bare setting n.node.0 then []
    else ground Node (box_left setting n.node.0) (box_width setting n.node.0) rows
    ∷ Box NodeCaption (record {
      corner = point (box_left setting n.node.0) 6;
      width = box_width setting n.node.0;
      height = 22;
    })
    ∷ title_at Strong (box_left setting n.node.0 + box_width setting n.node.0 / 2) 21
    (codes "node " ++ n.name) ∷ []

-- a level or an upright line
abbrev pub straight : Class → ℕ → ℕ → ℕ → Shape
straight class x from to = Path class (Move (point x from) ∷ Line (point x to) ∷ [])

-- the name of a node; `?` where no node is found
abbrev pub name_if : Option DrawnNode → List ℕ
name_if None = codes "?"
name_if (Some n) = n.name

-- the rail of a link at a node, and the node's name over it
abbrev pub rail_shapes : Setting → ℕ → ℕ → ℕ → List Shape
rail_shapes setting rows node x =
    straight Rail x 70 (foot rows)
    ∷ title_at Faint x 44 (cut 10 (name_if (node_of setting node))) ∷ []

-- THE LANE OF A LINK, with its name over it and its two rails
abbrev pub link_shapes : Setting → ℕ → DrawnLink → List Shape
link_shapes setting rows l =
    ground Lane (lane_left setting l) 156 rows
    ∷ title_at Strong (lane_left setting l + 78) 21 (codes "link " ++ l.name)
    ∷ (rail_shapes setting rows (earlier_end l) (lane_left setting l + 24)
    ++ rail_shapes setting rows (later_end l) (lane_left setting l + 132))

-- a stripe behind each second step
abbrev pub stripe_shapes : Setting → Spot → List Shape
stripe_shapes setting spot =
    if spot.mark.line.step % 2 == 0
    then Box Stripe (record {
      corner = point 0 (row_top spot.row);
      width = width_of setting;
      height = 18;
    }) ∷ []
    else []

-- the actor made its last step
abbrev pub is_ended : MarkKind → Bool
is_ended kinds.Ended = true
is_ended _ = false

-- the column of a drawn actor
abbrev pub actor_column : DrawnActor → Column
actor_column a = columns.Life a.actor

-- the first mark on an actor's line
abbrev pub first_of : List Spot → DrawnActor → Option Spot
first_of spots a = find (λ (s : Spot). same_column s.mark.column (actor_column a)) spots

-- the mark of an actor's last step
abbrev pub last_of : List Spot → DrawnActor → Option Spot
last_of spots a =
    find (λ (s : Spot). same_column s.mark.column (actor_column a) && is_ended s.mark.kind) spots

-- how far down a line ends: in the middle of a row, or at the foot
abbrev pub end_of : ℕ → Option Spot → ℕ
end_of rows None = foot rows
end_of rows (Some s) = row_top s.row + 9

-- the line of an actor from its first mark on
abbrev pub life_shapes : ℕ → ℕ → Option Spot → Option Spot → List Shape
life_shapes rows x None last = []
life_shapes rows x (Some first) last =
    straight Life x (row_top first.row + 9) (end_of rows last) ∷ []

-- how many characters of an actor's captions there is room for
abbrev pub name_room : Setting → ℕ
name_room setting = gap setting / 7

-- THE LINE OF AN ACTOR, and its captions over it
abbrev pub actor_shapes : Setting → ℕ → List Spot → DrawnActor → List Shape
actor_shapes setting rows spots a =
    title_at Strong (life_left setting a + 32) 44 (cut (name_room setting) a.caption)
    ∷ title_at Faint (life_left setting a + 32) 58 (cut (name_room setting) a.subcaption)
    ∷ life_shapes rows (life_left setting a + 32) (first_of spots a) (last_of spots a)
