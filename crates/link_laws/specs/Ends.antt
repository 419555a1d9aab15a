-- The two ends of a link of the shape.
use Rattle.std.specs.Prelude.{ℕ, zero, suc, ◌≡◌, ◌≤◌, ◌<◌, ◌==◌, false, length, slice_get, Option}
use Rattle.std.specs.Prelude.{Some, None}
use Rattle.linx_base.specs.Sides.{other_of}
use Rattle.linx_base.specs.declared.frame.LinkDecl.{LinkDecl}
use Rattle.linx_base.specs.declared.identity.LinkNo.{LinkNo}
use Rattle.linx_base.specs.declared.identity.Side.{Side}
use Rattle.linx_base.specs.declared.identity.Side.TheVariants.{First, Second}
use Rattle.journal.specs.Shapes.{Shape}

-- the number of the node at a side of a link
abbrev pub end_of : LinkDecl → Side → ℕ
end_of link First = link.first.0
end_of link Second = link.second.0

-- 0 where there is no such link
abbrev pub end_or_0 : Option LinkDecl → Side → ℕ
end_or_0 None side = 0
end_or_0 (Some link) side = end_of link side

-- a link of the shape by its number, from 1
abbrev pub link_at : Shape → ℕ → Option LinkDecl
link_at shape zero = None
link_at shape (suc k) = slice_get shape.links k

-- the node at a side of a link of the shape
abbrev pub node_at : Shape → LinkNo → Side → ℕ
node_at shape l side = end_or_0 (link_at shape l.0) side

-- the link is one of the shape
abbrev pub IsLinkOf : Shape → LinkNo → Type 0
IsLinkOf shape l = (0 < l.0) × (l.0 ≤ length shape.links)

-- the two nodes of each link differ
abbrev pub HasTwoEnds : Shape → Type 0
HasTwoEnds shape = (l : LinkNo) → IsLinkOf shape l → (side : Side)
    → (node_at shape l side == node_at shape l (other_of side)) ≡ false
