-- What a kernel keeps of its open endpoints.
use Rattle.std.specs.Prelude.{◌≡◌, ℕ, ◌<◌, ◌-◌, List, [], ◌∷◌, ◌++◌, ⊤, length, map, take, Option}
use Rattle.std.specs.Prelude.{Some, None, if◌then◌else◌}
use Rattle.std.specs.List.{AllByRecursion}
use Rattle.linx_base.specs.declared.identity.Inc.{Inc}
use Rattle.linx_base.specs.declared.identity.ItemAt.{ItemAt}
use Rattle.linx_base.specs.declared.identity.NodeNo.{NodeNo}
use Rattle.linx_base.specs.Peers.{same_inc}
use Rattle.linx_base.specs.declared.item.Item.{Item}
use Rattle.linx_base.specs.declared.item.Kind.TheVariants.{Plain, Found as FoundBy, Notice}
use Rattle.journal.specs.declared.effect.Effect.{Effect}
use Rattle.journal.specs.declared.effect.Effect.TheVariants.{Arrived, Found, Notified}
use Rattle.journal.specs.History.{next_inc}
use Rattle.journal.specs.Queues.{is_item_of, items_from}
use Rattle.name_table.specs.declared.named.NamedEndpoint.{NamedEndpoint}
use Rattle.node_kernel.specs.declared.delivery.Delivery.{Delivery}
use Rattle.node_kernel.specs.Nodes.{OpenEndpoint}

-- each incarnation is above those before it
abbrev pub AreRising : List OpenEndpoint → Type 0
AreRising [] = ⊤
AreRising (e ∷ es) = AllByRecursion (λ f. e.inc.0 < f.inc.0) es × AreRising es

-- an endpoint under its name
abbrev pub name_entry : OpenEndpoint → NamedEndpoint
name_entry e = record { name = e.name; inc = e.inc }

-- what the endpoints of a node are seen as: the node, how many were opened so far, and those that
-- are open, in order of opening
pub record NodeEndpoints : Type 0 where
  pub node : NodeNo
  pub openings : ℕ
  pub endpoints : List OpenEndpoint

-- the open endpoints are in order of incarnation, all below the next one, and the table has their
-- names
pub record AreKept (node : NodeNo) (openings : ℕ) (endpoints : List OpenEndpoint)
    (names : List NamedEndpoint) : Type 0 where
  pub rising : AreRising endpoints
  pub below : AllByRecursion (λ e. e.inc.0 < (next_inc node.0 openings).0) endpoints
  pub named : names ≡ map name_entry endpoints

-- an endpoint with one more item, if it is this one
abbrev pub put_item : Inc → Item → OpenEndpoint → OpenEndpoint
put_item i item e = record e { items = e.items ++ (if same_inc i e.inc then item ∷ [] else []) }

-- an endpoint with another queue, if it is this one
abbrev pub change_items : Inc → (List Item → List Item) → OpenEndpoint → OpenEndpoint
change_items i f e = if same_inc i e.inc then record e { items = f e.items } else e

-- the items but the last
abbrev pub without_last : List Item → List Item
without_last items = take (length items - 1) items

-- an endpoint after one effect, at this position
abbrev pub bring_into : ItemAt → Effect → OpenEndpoint → OpenEndpoint
bring_into at effect e =
    record e { items = e.items ++ (if is_item_of e.inc effect then items_from at effect else []) }

-- what an effect at this position delivers, if anything
abbrev pub delivery_at : ItemAt → Effect → Option Delivery
delivery_at at (Arrived i from note) =
    Some (record { to = i; item = record { signal = note; from = from; kind = Plain; pos = at } })
delivery_at at (Found i from note hunt) =
    Some (record {
      to = i;
      item = record {
        signal = note;
        from = from;
        kind = FoundBy hunt;
        pos = at;
      };
    })
delivery_at at (Notified i from note reference reason) =
    Some (record {
      to = i;
      item = record {
        signal = note;
        from = from;
        kind = Notice reference;
        pos = at;
      };
    })
delivery_at at _ = None

-- the endpoint that an effect delivers to, if any
abbrev pub receiver_of : Effect → Option Inc
receiver_of (Arrived i from note) = Some i
receiver_of (Found i from note hunt) = Some i
receiver_of (Notified i from note reference reason) = Some i
receiver_of _ = None
