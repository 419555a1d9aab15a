-- The nodes that a link joins, as far as the steps tell them.
use Rattle.std.specs.Prelude.{ℕ, Bool, true, false, not, ◌==◌, ◌&&◌, List, [], ◌∷◌, slice_get}
use Rattle.std.specs.Prelude.{Option, Some, None, if◌then◌else◌}
use Rattle.linx_base.specs.declared.identity.LinkNo.{LinkNo}
use Rattle.linx_base.specs.declared.identity.NodeNo.{NodeNo}
use Rattle.linx_base.specs.declared.identity.Side.{Side}
use Rattle.linx_base.specs.declared.identity.Side.TheVariants.{First, Second}
use Rattle.journal.specs.declared.head.Head.{Head}
use Rattle.journal.specs.declared.head.Head.TheVariants.{Wire, Tick}
use Rattle.journal.specs.declared.effect.Effect.{Effect}
use Rattle.journal.specs.declared.effect.Effect.TheVariants.{Met, Gone, Up, Down}
use Rattle.journal.specs.declared.effect.Step.{Step}

-- two sides of a link are one
abbrev pub same_side : Side → Side → Bool
same_side First First = true
same_side Second Second = true
same_side _ _ = false

-- what a step brings comes to this side of a link: a packet from the other side, or a tick of its
-- clock
abbrev pub is_met_at : LinkNo → Side → Head → Bool
is_met_at link side (Wire l from verdict) = l.0 == link.0 && not (same_side from side)
is_met_at link side (Tick l at) = l.0 == link.0 && same_side at side
is_met_at link side _ = false

-- the node that an effect names
abbrev pub node_of_effect : Effect → Option NodeNo
node_of_effect (Met node peer name) = Some node
node_of_effect (Gone node peer) = Some node
node_of_effect (Up node link session other) = Some node
node_of_effect (Down node link session) = Some node
node_of_effect _ = None

-- the node that a first effect names, where there is one
abbrev pub node_of_first : Option Effect → Option NodeNo
node_of_first None = None
node_of_first (Some e) = node_of_effect e

-- the node at a side of a link, if the step tells it: its first effect names it
abbrev pub end_told : LinkNo → Side → Step → Option NodeNo
end_told link side s =
    if is_met_at link side s.head then node_of_first (slice_get s.effects 0) else None

-- what was told before, or else what is told now
abbrev pub or_told : Option NodeNo → Option NodeNo → Option NodeNo
or_told None now = now
or_told (Some node) now = Some node

-- THE NODE AT A SIDE OF A LINK, as the first step tells it that tells one
abbrev pub end_in : List Step → LinkNo → Side → Option NodeNo
end_in [] link side = None
end_in (s ∷ P) link side = or_told (end_in P link side) (end_told link side s)

-- a number above those of all nodes
abbrev pub rightmost : ℕ
rightmost = 4294967295

-- a node that was found, or else the one of this number
abbrev pub node_or : ℕ → Option NodeNo → NodeNo
node_or number None = record { 0 = number }
node_or number (Some node) = node

-- the node at a link's first side; where no step tells it, it is drawn left of all nodes
abbrev pub first_end : List Step → LinkNo → NodeNo
first_end S link = node_or 0 (end_in S link First)

-- the node at a link's second side; where no step tells it, it is drawn right of all nodes
abbrev pub second_end : List Step → LinkNo → NodeNo
second_end S link = node_or rightmost (end_in S link Second)
