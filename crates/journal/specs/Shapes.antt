-- What a run is laid out on.
use Rattle.std.specs.Prelude.{ℕ, zero, suc, List, slice_get, Option, Some, None}
use Rattle.linx_base.specs.declared.frame.LinkDecl.{LinkDecl}
use Rattle.linx_base.specs.declared.identity.NodeNo.{NodeNo}
use Rattle.journal.specs.declared.by.By.{By}
use Rattle.journal.specs.declared.by.By.TheVariants.{Actor, Pump}

-- the links, and the node of each actor
pub record Shape : Type 0 where
  pub links : List LinkDecl
  pub actors : List NodeNo

-- the node of an actor, from 1
abbrev pub node_of_actor : Shape → ℕ → Option NodeNo
node_of_actor shape zero = None
node_of_actor shape (suc k) = slice_get shape.actors k

-- the number of a node, or 0 where there is none
abbrev pub number_or_0 : Option NodeNo → ℕ
number_or_0 None = 0
number_or_0 (Some n) = n.0

-- the number of the node that a maker acts on; a pump acts on none, which is 0
abbrev pub node_by : Shape → By → ℕ
node_by shape (Pump link) = 0
node_by shape (Actor k) = number_or_0 (node_of_actor shape k)
