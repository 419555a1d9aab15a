-- Where things stand from left to right: a box for each node with a column for each of its actors,
-- and a lane for each link, before the box of the later one of its nodes. All measures are whole.
use Rattle.std.specs.Prelude.{ℕ, ◌+◌, ◌-◌, ◌*◌, ◌==◌, ◌≤◌, nat_lt, nat_le, min, max, Bool, false, not}
use Rattle.std.specs.Prelude.{◌&&◌, if◌then◌else◌, length, filter, find, Option, Some, None}
use Rattle.linx_base.specs.declared.identity.Side.{Side}
use Rattle.linx_base.specs.declared.identity.Side.TheVariants.{First, Second}
use Rattle.chart.specs.declared.column.Column.{Column}
use Rattle.chart.specs.declared.column.Column.TheVariants.{Life, Lane, Rail, Nowhere}
use Rattle.chart_drawing.specs.declared.setting.DrawnNode.{DrawnNode}
use Rattle.chart_drawing.specs.declared.setting.DrawnLink.{DrawnLink}
use Rattle.chart_drawing.specs.declared.setting.DrawnActor.{DrawnActor}
use Rattle.chart_drawing.specs.declared.setting.Setting.{Setting}

-- at most 64 nodes, 64 links and 64 actors
abbrev pub IsNarrow : Setting → Type 0
IsNarrow setting =
    (length setting.nodes ≤ 64) × (length setting.links ≤ 64) × (length setting.actors ≤ 64)

-- the test whether there are at most 64 nodes, 64 links and 64 actors
abbrev pub is_narrow : Setting → Bool
is_narrow setting =
    nat_le (length setting.nodes) 64 && nat_le (length setting.links) 64
    && nat_le (length setting.actors) 64

-- the end of a link that stands further left, by the number of its node
abbrev pub earlier_end : DrawnLink → ℕ
earlier_end link = min link.first.0 link.second.0

-- the end of a link that stands further right
abbrev pub later_end : DrawnLink → ℕ
later_end link = max link.first.0 link.second.0

-- the node at a side of a link
abbrev pub end_at : Side → DrawnLink → ℕ
end_at First link = link.first.0
end_at Second link = link.second.0

-- the rail of a link at a node is the right one of the two
abbrev pub is_right : ℕ → DrawnLink → Bool
is_right node link = not (node == earlier_end link)

-- how much room the lines of the journal have at the left: that of their numbers where they are left
-- out
abbrev pub text_width : Setting → ℕ
text_width setting = if setting.view.plain then 60 else 364

-- how far apart actors stand: narrower where there are many
abbrev pub gap : Setting → ℕ
gap setting =
    if nat_le (length setting.actors) 6 then 168
    else (if nat_le (length setting.actors) 12 then 120 else 84)

-- the nodes with a lower number
abbrev pub nodes_before : Setting → ℕ → ℕ
nodes_before setting node =
    length (filter (λ (n : DrawnNode). nat_lt n.node.0 node) setting.nodes)

-- the actors of nodes with a lower number
abbrev pub actors_before : Setting → ℕ → ℕ
actors_before setting node =
    length (filter (λ (a : DrawnActor). nat_lt a.node.0 node) setting.actors)

-- the actors of a node
abbrev pub actors_on : Setting → ℕ → ℕ
actors_on setting node =
    length (filter (λ (a : DrawnActor). a.node.0 == node) setting.actors)

-- the actors of a node with a lower number than this
abbrev pub actors_left : Setting → ℕ → ℕ → ℕ
actors_left setting node actor =
    length (filter (λ (a : DrawnActor). a.node.0 == node && nat_lt a.actor actor) setting.actors)

-- the links whose later end is a node with a lower number
abbrev pub links_before : Setting → ℕ → ℕ
links_before setting node =
    length (filter (λ (l : DrawnLink). nat_lt (later_end l) node) setting.links)

-- the links whose later end is this node
abbrev pub links_to : Setting → ℕ → ℕ
links_to setting node =
    length (filter (λ (l : DrawnLink). later_end l == node) setting.links)

-- the links whose later end is this node, with a lower number than this
abbrev pub links_left : Setting → ℕ → ℕ → ℕ
links_left setting node link =
    length (filter (λ (l : DrawnLink). later_end l == node && nat_lt l.link.0 link) setting.links)

-- where what belongs to a node begins: the boxes, columns and lanes of nodes with a lower number
-- stand before it
unfoldable pub node_left : Setting → ℕ → ℕ
node_left setting node =
    text_width setting + 34 * nodes_before setting node + gap setting * actors_before setting node
    + 162 * links_before setting node

-- the left edge of a link's lane, which is 156 wide
unfoldable pub lane_left : Setting → DrawnLink → ℕ
lane_left setting link =
    node_left setting (later_end link) + 162 * links_left setting (later_end link) link.link.0

-- the left edge of a node's box
unfoldable pub box_left : Setting → ℕ → ℕ
box_left setting node = node_left setting node + 162 * links_to setting node

-- the width of a node's box
unfoldable pub box_width : Setting → ℕ → ℕ
box_width setting node = 28 + gap setting * actors_on setting node

-- where the cells of an actor begin, 32 before its line
unfoldable pub life_left : Setting → DrawnActor → ℕ
life_left setting a =
    box_left setting a.node.0 + 12 + gap setting * actors_left setting a.node.0 a.actor

-- the width of a picture
unfoldable pub width_of : Setting → ℕ
width_of setting =
    text_width setting + 10 + 34 * length setting.nodes + gap setting * length setting.actors
    + 162 * length setting.links

-- the actor of a number, if there is one
abbrev pub actor_of : Setting → ℕ → Option DrawnActor
actor_of setting number = find (λ (a : DrawnActor). a.actor == number) setting.actors

-- the link of a number, if there is one
abbrev pub link_of : Setting → ℕ → Option DrawnLink
link_of setting number = find (λ (l : DrawnLink). l.link.0 == number) setting.links

-- the node of a number, if there is one
abbrev pub node_of : Setting → ℕ → Option DrawnNode
node_of setting number = find (λ (n : DrawnNode). n.node.0 == number) setting.nodes

-- where the marks of a column stand that no actor and no link has
abbrev pub nowhere_left : Setting → ℕ
nowhere_left setting = text_width setting - 52

-- where the cells of an actor begin, if there is that actor
abbrev pub life_left_if : Setting → Option DrawnActor → ℕ
life_left_if setting None = nowhere_left setting
life_left_if setting (Some a) = life_left setting a

-- where the cells of a link's lane begin, if there is that link
abbrev pub lane_left_if : Setting → Option DrawnLink → ℕ
lane_left_if setting None = nowhere_left setting
lane_left_if setting (Some link) = lane_left setting link

-- where the cells of a rail begin, 16 before it; the rails stand 24 inside the lane
abbrev pub rail_left : Setting → ℕ → DrawnLink → ℕ
rail_left setting node link =
    lane_left setting link + (if is_right node link then 116 else 8)

-- where the cells of a link's rail at a node begin, if there is that link
abbrev pub rail_left_if : Setting → ℕ → Option DrawnLink → ℕ
rail_left_if setting node None = nowhere_left setting
rail_left_if setting node (Some link) = rail_left setting node link

-- WHERE THE CELLS OF A COLUMN BEGIN
unfoldable pub column_left : Setting → Column → ℕ
column_left setting (Life actor) = life_left_if setting (actor_of setting actor)
column_left setting (Lane link side) = lane_left_if setting (link_of setting link.0)
column_left setting (Rail link node) = rail_left_if setting node.0 (link_of setting link.0)
column_left setting Nowhere = nowhere_left setting

-- there is a link, and its rail at the node is the right one
abbrev pub is_right_if : ℕ → Option DrawnLink → Bool
is_right_if node None = false
is_right_if node (Some link) = is_right node link

-- there is a link, and its side's rail is the right one, from which packets go to the left
abbrev pub goes_left_if : Side → Option DrawnLink → Bool
goes_left_if side None = false
goes_left_if side (Some link) = is_right (end_at side link) link

-- the column's marks are turned: those of a right rail, and those of a lane that begin at one
unfoldable pub is_turned : Setting → Column → Bool
is_turned setting (Life actor) = false
is_turned setting (Lane link side) = goes_left_if side (link_of setting link.0)
is_turned setting (Rail link node) = is_right_if node.0 (link_of setting link.0)
is_turned setting Nowhere = false
