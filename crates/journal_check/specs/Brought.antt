-- What a packet or a tick brought, as its effects tell it, and what the kernel of its node makes of
-- that.
use Rattle.std.specs.Prelude.{List, [], ◌∷◌, slice_get, Option, Some, None}
use Rattle.linx_base.specs.Sides.{other_of}
use Rattle.linx_base.specs.declared.identity.LinkNo.{LinkNo}
use Rattle.linx_base.specs.declared.identity.NodeNo.{NodeNo}
use Rattle.linx_base.specs.declared.identity.Peer.TheVariants.{There}
use Rattle.linx_base.specs.declared.identity.Side.{Side}
use Rattle.journal.specs.Effects.{losing, meeting, parting}
use Rattle.journal.specs.declared.effect.Effect.{Effect}
use Rattle.journal.specs.declared.effect.Effect.TheVariants.{Arrived, Down, Gone, Met, Up}
use Rattle.journal.specs.declared.head.Head.{Head}
use Rattle.journal.specs.declared.head.Head.TheVariants.{Tick, Wire}
use Rattle.link_laws.specs.Brought.{Brought, arrives, goes_down, goes_up, meets, nothing, parts}
use Rattle.node_kernel.specs.Nodes.{NodeState}

-- the link of a packet or a tick, with the side where the packet arrives or that ticks; none of a
-- step off the links
abbrev pub side_reached : Head → Option (LinkNo × Side)
side_reached (Wire l from verdict) = Some (l, other_of from)
side_reached (Tick l side) = Some (l, side)
side_reached _ = None

-- what begins with an effect; nothing where no packet and no tick does
abbrev pub told_by_first : Effect → Brought
told_by_first (Up n l x y) = goes_up x y
told_by_first (Down n l x) = goes_down x
told_by_first (Arrived b (There l x a) note) = arrives x a b note
told_by_first (Met n (There l x a) name) = meets x a name
told_by_first (Gone n (There l x a)) = parts x a
told_by_first _ = nothing

-- what the first effect tells; nothing where there is none
abbrev pub told_by_one : Option Effect → Brought
told_by_one None = nothing
told_by_one (Some e) = told_by_first e

-- WHAT EFFECTS TELL that a packet or a tick brought
abbrev pub told_by : List Effect → Brought
told_by es = told_by_one (slice_get es 0)

-- THE EFFECTS at a node of this number, with this kernel, of what is brought over a link
abbrev pub effects_brought : NodeNo → NodeState → LinkNo → Brought → List Effect
effects_brought at n l nothing = []
effects_brought at n l (goes_up x y) = Up at l x y ∷ []
effects_brought at n l (goes_down x) = losing n.node l x n.attaches
effects_brought at n l (arrives x a b note) = Arrived b (There l x a) note ∷ []
effects_brought at n l (meets x a name) = meeting n.node l (There l x a) name n.hunts
effects_brought at n l (parts x a) = parting n.node (There l x a) n.attaches
