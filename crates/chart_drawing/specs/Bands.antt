-- What is done to a link or a node: a band over a lane from a cut to the next mend, or to the foot
-- of the drawing, and a line across the box of a node that restarts.
use Rattle.std.specs.Prelude.{ℕ, ◌+◌, ◌==◌, nat_lt, Bool, false, not, ◌&&◌, ◌||◌, List, []}
use Rattle.std.specs.Prelude.{◌∷◌, flat_map, find, Option, is_none, if◌then◌else◌}
use Rattle.linx_base.specs.declared.identity.LinkNo.{LinkNo}
use Rattle.linx_base.specs.declared.identity.NodeNo.{NodeNo}
use Rattle.linx_base.specs.declared.identity.Side.TheVariants.{First}
use Rattle.svg_text.specs.declared.class.Class.TheVariants.{Cut, Restart}
use Rattle.svg_text.specs.declared.shape.Shape.{Shape}
use Rattle.svg_text.specs.declared.shape.Shape.TheVariants.{Box, Path}
use Rattle.svg_text.specs.declared.shape.Stroke.TheVariants.{Move, Line}
use Rattle.chart.specs.declared.column.Column.TheVariants.{Lane}
use Rattle.chart.specs.declared.mark.MarkKind.{MarkKind}
use Rattle.chart.specs.declared.mark.MarkKind.TheVariants as kinds
use Rattle.chart_drawing.specs.declared.setting.Setting.{Setting}
use Rattle.chart_drawing.specs.declared.spot.Spot.{Spot}
use Rattle.chart_drawing.specs.Bars.{reach}
use Rattle.chart_drawing.specs.Layout.{box_left, box_width, column_left, link_of, node_of}
use Rattle.chart_drawing.specs.Spots.{point, row_top}

-- a mark mends this link
abbrev pub is_mend_of : LinkNo → MarkKind → Bool
is_mend_of link (kinds.Mend mended) = mended.0 == link.0
is_mend_of link _ = false

-- the first mark below a cut that mends its link
abbrev pub mend_of : LinkNo → Spot → List Spot → Option Spot
mend_of link from spots =
    find (λ (s : Spot). nat_lt from.mark.line.step s.mark.line.step && is_mend_of link s.mark.kind)
    spots

-- the band of a link that is cut, over its lane; none where it has no height, or no lane
abbrev pub cut_shapes : Setting → ℕ → LinkNo → Spot → Option Spot → List Shape
cut_shapes setting rows link from mend =
    if reach rows from mend == 0 || is_none (link_of setting link.0) then []
    else Box Cut (record {
      corner = point (column_left setting (Lane link First)) (row_top from.row + 9);
      width = 156;
      height = reach rows from mend;
    }) ∷ []

-- the line across the box of a node that restarts; none where the mark isn't seen, or no box is there
abbrev pub restart_shapes : Setting → NodeNo → Spot → List Shape
restart_shapes setting node spot =
    if not spot.seen || is_none (node_of setting node.0) then []
    else Path Restart (Move (point (box_left setting node.0) (row_top spot.row + 9))
    ∷ Line (point (box_left setting node.0 + box_width setting node.0) (row_top spot.row + 9)) ∷ [])
    ∷ []

-- what a mark does to a link or a node
abbrev pub band_of : Setting → ℕ → List Spot → MarkKind → Spot → List Shape
band_of setting rows spots (kinds.Cut link) spot =
    cut_shapes setting rows link spot (mend_of link spot spots)
band_of setting rows spots (kinds.Restart node) spot = restart_shapes setting node spot
band_of setting rows spots _ spot = []

-- WHAT IS DONE TO LINKS AND NODES, of so many rows
abbrev pub bands_of : Setting → ℕ → List Spot → List Shape
bands_of setting rows spots =
    flat_map (λ (s : Spot). band_of setting rows spots s.mark.kind s) spots
