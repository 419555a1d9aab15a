use Rattle.std.specs.Prelude.{ℕ, Bool, List, [], ◌∷◌, ◌++◌, map, Option, Some, None, if◌then◌else◌}
use Rattle.std.specs.List.{list_any}
use Rattle.std.specs.Str.{bytes_eq}
use Rattle.linx_base.specs.FirstMatch.{first_match, without_match}
use Rattle.linx_base.specs.Peers.{same_inc}
use Rattle.linx_base.specs.declared.identity.Inc.{Inc}
use Rattle.linx_base.specs.declared.identity.NodeNo.{NodeNo}
use Rattle.linx_base.specs.declared.identity.Peer.{Peer}
use Rattle.linx_base.specs.declared.identity.Peer.TheVariants.{Here, There}
use Rattle.linx_base.specs.declared.item.Item.{Item}
use Rattle.linx_base.specs.declared.name.Path.{Path}
use Rattle.linx_base.specs.declared.name.Path.TheVariants.{Local, Over}
use Rattle.linx_base.specs.declared.pending.MetPeer.{MetPeer}
use Rattle.linx_base.specs.declared.pending.PendingAttach.{PendingAttach}
use Rattle.linx_base.specs.declared.pending.PendingHunt.{PendingHunt}
use Rattle.journal.specs.declared.effect.Effect.{Effect}
use Rattle.journal.specs.History.{next_inc}
use Rattle.journal.specs.Living.{here, is_met, is_named_over, met_peer}
use Rattle.journal.specs.Queues.{items_in}

-- the most endpoints that are open at once on a node
abbrev pub endpoint_limit : ℕ
endpoint_limit = 4096

-- an open endpoint: its incarnation, its name, and the items of its queue, oldest first
pub record OpenEndpoint : Type 0 where
  pub inc : Inc
  pub name : List ℕ
  pub items : List Item

-- what a kernel is seen as: its node, how many endpoints were opened so far, those that are open,
-- in order of opening, its pending hunts, the attaches that are owed a notification, and the living
-- peers that it met, each in order
pub record NodeState : Type 0 where
  pub node : NodeNo
  pub openings : ℕ
  pub endpoints : List OpenEndpoint
  pub hunts : List PendingHunt
  pub attaches : List PendingAttach
  pub met : List MetPeer

-- a node before its first step
abbrev pub empty_node : NodeNo → NodeState
empty_node node = record {
  node = node;
  openings = 0;
  endpoints = [];
  hunts = [];
  attaches = [];
  met = [];
}

-- the endpoint is this incarnation
abbrev pub is_at : Inc → OpenEndpoint → Bool
is_at i e = same_inc i e.inc

-- the incarnation is open
abbrev pub is_open : List OpenEndpoint → Inc → Bool
is_open endpoints i = list_any (is_at i) endpoints

-- the items that wait at an endpoint; none where it isn't open
abbrev pub items_of : Option OpenEndpoint → List Item
items_of None = []
items_of (Some e) = e.items

-- the items that wait at an incarnation, of these endpoints
abbrev pub items_at : List OpenEndpoint → Inc → List Item
items_at endpoints i = items_of (first_match (is_at i) endpoints)

-- the endpoints with another queue at this incarnation
abbrev pub with_items : List OpenEndpoint → Inc → List Item → List OpenEndpoint
with_items [] i items = []
with_items (e ∷ es) i items = if is_at i e then (record e { items = items }) ∷ es else e
    ∷ with_items es i items

-- the open endpoints without this incarnation
abbrev pub without_endpoint : List OpenEndpoint → Inc → List OpenEndpoint
without_endpoint endpoints i = without_match (is_at i) endpoints

-- an endpoint after the effects of step k, which put their items last into its queue
abbrev pub put_into : ℕ → List Effect → OpenEndpoint → OpenEndpoint
put_into k effects e = record e { items = e.items ++ items_in e.inc k 1 effects }

-- the endpoints after the effects of step k
abbrev pub put_all : ℕ → List Effect → List OpenEndpoint → List OpenEndpoint
put_all k effects endpoints = map (put_into k effects) endpoints

-- the name of an open endpoint; none where it isn't open
abbrev pub name_if : Option OpenEndpoint → Option (List ℕ)
name_if None = None
name_if (Some e) = Some e.name

-- the name of the endpoint of an incarnation, of these
abbrev pub name_at : List OpenEndpoint → Inc → Option (List ℕ)
name_at endpoints i = name_if (first_match (is_at i) endpoints)

-- the endpoint has this name
abbrev pub is_named : List ℕ → OpenEndpoint → Bool
is_named name e = bytes_eq name e.name

-- the first opened endpoint of a name that is open; none where no open endpoint has it
abbrev pub inc_if : Option OpenEndpoint → Option Inc
inc_if None = None
inc_if (Some e) = Some e.inc

-- the first opened endpoint of a name, of these
abbrev pub first_named : List OpenEndpoint → List ℕ → Option Inc
first_named endpoints name = inc_if (first_match (is_named name) endpoints)

-- a peer is alive at the node: an endpoint of it that is open, or one met over a link that lives
abbrev pub is_living : NodeState → Peer → Bool
is_living k (Here i) = is_open k.endpoints i
is_living k (There link session i) = is_met k.met (There link session i)

-- what a path finds at the node
abbrev pub find_at : NodeState → Path → Option Peer
find_at k (Local name) = here (first_named k.endpoints name)
find_at k (Over l name) = met_peer (first_match (is_named_over l name) k.met)

-- the next incarnation of a node
abbrev pub next_of : NodeState → Inc
next_of k = next_inc k.node.0 k.openings
