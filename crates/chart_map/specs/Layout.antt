-- Where things stand in a map: a box for each node with a strip for each of its actors, and for each link
-- a lane with two strips before the box of the later one of its nodes; the rows from the top down.
use Rattle.std.specs.Prelude.{ℕ, ◌+◌, ◌-◌, ◌*◌, ◌/◌, max, nat_le, Bool, length, if◌then◌else◌}
use Rattle.linx_base.specs.declared.identity.Side.{Side}
use Rattle.linx_base.specs.declared.identity.Side.TheVariants.{First, Second}
use Rattle.chart_drawing.specs.declared.setting.DrawnActor.{DrawnActor}
use Rattle.chart_drawing.specs.declared.setting.DrawnLink.{DrawnLink}
use Rattle.chart_drawing.specs.declared.setting.Setting.{Setting}
use Rattle.chart_drawing.specs.Layout.{nodes_before, actors_before, actors_on, actors_left}
use Rattle.chart_drawing.specs.Layout.{links_before, links_to, links_left, later_end}

-- there are so few actors that their strips have room for names
abbrev pub is_wide : Setting → Bool
is_wide setting = nat_le (length setting.actors) 12

-- how wide the strip of an actor is, with the gap behind it
abbrev pub strip_width : Setting → ℕ
strip_width setting = if is_wide setting then 64 else 22

-- where what belongs to a node begins: the boxes, strips and lanes of nodes with a lower number stand
-- before it
unfoldable pub node_left : Setting → ℕ → ℕ
node_left setting node =
    66 + 34 * nodes_before setting node + strip_width setting * actors_before setting node
    + 78 * links_before setting node

-- the left edge of a link's lane, which is 72 wide
unfoldable pub lane_left : Setting → DrawnLink → ℕ
lane_left setting link =
    node_left setting (later_end link) + 78 * links_left setting (later_end link) link.link.0

-- the left edge of a node's box
unfoldable pub box_left : Setting → ℕ → ℕ
box_left setting node = node_left setting node + 78 * links_to setting node

-- the width of a node's box
unfoldable pub box_width : Setting → ℕ → ℕ
box_width setting node = 28 + strip_width setting * actors_on setting node

-- the left edge of an actor's strip
unfoldable pub strip_left : Setting → DrawnActor → ℕ
strip_left setting a =
    box_left setting a.node.0 + 14 + strip_width setting * actors_left setting a.node.0 a.actor

-- the left edge of the strip of a link's direction, named by the side that sends: that of the first
-- side stands before that of the second
unfoldable pub way_left : Setting → DrawnLink → Side → ℕ
way_left setting link First = lane_left setting link + 14
way_left setting link Second = lane_left setting link + 36

-- the right edge of all strips
unfoldable pub right_edge : Setting → ℕ
right_edge setting =
    66 + 34 * length setting.nodes + strip_width setting * length setting.actors
    + 78 * length setting.links

-- how far down a row begins
abbrev pub row_top : ℕ → ℕ
row_top row = 88 + 3 * row

-- how far the strips and what stands beside them go down from their top
abbrev pub depth : ℕ → ℕ
depth rows = max (3 * rows + 40) 200

-- the height of a map
abbrev pub height_of : ℕ → ℕ
height_of rows = 88 + depth rows

-- how many rare lines there is room for, 14 for each
abbrev pub label_room : ℕ → ℕ
label_room rows = depth rows / 14 - 2
