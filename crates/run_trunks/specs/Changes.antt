-- What the sides of a node, and one link, make of the trunks.
use Rattle.std.specs.Prelude.{ℕ, ◌≡◌, ◌==◌, ◌-◌, List, [], ◌∷◌, Option, slice_set}
use Rattle.linx_base.specs.declared.frame.LinkDecl.{LinkDecl}
use Rattle.linx_base.specs.declared.identity.LinkNo.{LinkNo}
use Rattle.linx_base.specs.declared.identity.Side.{Side}
use Rattle.linx_base.specs.declared.identity.Side.TheVariants.{First, Second}
use Rattle.link_laws.specs.Ends.{IsLinkOf, end_of, node_at}
use Rattle.trunk.specs.Events.{TrunkState}
use Rattle.trunk_moves.specs.Trunks.{does, side_if}
use Rattle.run_trunks.specs.States.{over, trunk_at, trunks_of}

-- the side of a link that is on node n, if one is
abbrev pub side_with : ℕ → LinkDecl → Option Side
side_with n link = side_if (end_of link First == n) (end_of link Second == n)

-- each element is changed by what stands at its place
abbrev pub each_by : {A X : Type 0} → (A → X → X) → List A → List X → List X
each_by change [] xs = xs
each_by change (b ∷ bs) [] = []
each_by change (b ∷ bs) (x ∷ xs) = change b x ∷ each_by change bs xs

-- THE SIDE OF EACH LINK THAT IS ON NODE n does this
abbrev pub each_does : List LinkDecl → ℕ → (Side → TrunkState → TrunkState) → List TrunkState
    → List TrunkState
each_does links n act ts = each_by (λ link t. does (side_with n link) act t) links ts

-- the trunk at a place is changed
abbrev pub at_place : ℕ → (TrunkState → TrunkState) → List TrunkState → List TrunkState
at_place place change ts = slice_set ts place (change (trunk_at ts place))

-- THE TRUNK OF ONE LINK is changed
abbrev pub at_link : LinkNo → (TrunkState → TrunkState) → List TrunkState → List TrunkState
at_link l change ts = at_place (l.0 - 1) change ts

-- each side that is on node n grants this
abbrev pub AllGrant : List LinkDecl → ℕ → List TrunkState → (Side → TrunkState → Type 0) → Type 0
AllGrant links n ts Grants = (l : LinkNo) → IsLinkOf (over links) l → (side : Side)
    → node_at (over links) l side ≡ n → Grants side (trunks_of ts l.0)
