use Rattle.std.specs.List.{list_any}
use Rattle.std.specs.Prelude.{ℕ, suc, ◌+◌, Bool, true, false, not, ◌&&◌, List, [], ◌∷◌, ◌++◌}
use Rattle.std.specs.Prelude.{length, filter, if◌then◌else◌, Option, Some, None}
use Rattle.linx_base.specs.Peers.{same_inc, same_position}
use Rattle.linx_base.specs.declared.identity.Inc.{Inc}
use Rattle.linx_base.specs.declared.identity.ItemAt.{ItemAt}
use Rattle.linx_base.specs.declared.item.Item.{Item}
use Rattle.linx_base.specs.declared.item.Kind.TheVariants.{Plain, Found as FoundBy, Notice}
use Rattle.sigsel.specs.Selection.{is_notice_of}
use Rattle.journal.specs.declared.head.Head.{Head}
use Rattle.journal.specs.declared.head.Head.TheVariants.{Take, Detach}
use Rattle.journal.specs.declared.head.Detached.{Detached}
use Rattle.journal.specs.declared.head.Detached.TheVariants.{Pending, Queued, None as Neither}
use Rattle.journal.specs.declared.effect.Effect.{Effect}
use Rattle.journal.specs.declared.effect.Effect.TheVariants.{Arrived, Closed, Found, Notified}
use Rattle.journal.specs.declared.effect.Step.{Step}
use Rattle.journal.specs.History.{endpoint_by, opens}
use Rattle.journal.specs.Traffic.{is_endpoint}

-- the effect puts an item into this endpoint's queue
abbrev pub is_item_of : Inc → Effect → Bool
is_item_of j (Arrived i from note) = same_inc i j
is_item_of j (Found i from note hunt) = same_inc i j
is_item_of j (Notified i from note reference reason) = same_inc i j
is_item_of j _ = false

-- the endpoint that an effect closes, or into whose queue it puts an item
abbrev pub reached_by : Effect → Option Inc
reached_by (Closed i) = Some i
reached_by (Arrived i from note) = Some i
reached_by (Found i from note hunt) = Some i
reached_by (Notified i from note reference reason) = Some i
reached_by _ = None

-- the item that an effect at this position puts into its endpoint's queue
abbrev pub items_from : ItemAt → Effect → List Item
items_from at (Arrived i from note) =
    record { signal = note; from = from; kind = Plain; pos = at } ∷ []
items_from at (Found i from note hunt) =
    record { signal = note; from = from; kind = FoundBy hunt; pos = at } ∷ []
items_from at (Notified i from note reference reason) =
    record { signal = note; from = from; kind = Notice reference; pos = at } ∷ []
items_from at _ = []

-- the items that a step's effects put into the queue of an endpoint, from this place on
abbrev pub items_in : Inc → ℕ → ℕ → List Effect → List Item
items_in j step place [] = []
items_in j step place (e ∷ es) =
    (if is_item_of j e then items_from (record { step = step; place = place }) e else [])
    ++ items_in j step (place + 1) es

-- a detach was answered so that the queued notification is gone
abbrev pub took_queued : Detached → Bool
took_queued Pending = false
took_queued Queued = true
took_queued Neither = false

-- the head takes the item out of the queue of its maker's endpoint: a Take that names the item's
-- position, or a Detach of the item's reference that was answered queued
abbrev pub removes : Head → Item → Bool
removes (Take filter position) item = same_position position item.pos
removes (Detach r answer) item = took_queued answer && is_notice_of r item
removes _ item = false

-- what a head leaves of a queue, which is that of its maker's endpoint or not
abbrev pub left_by : Bool → Head → List Item → List Item
left_by true head items = filter (λ item. not (removes head item)) items
left_by false head items = items

-- what was queued at an endpoint before the effects that open it is none of its own
abbrev pub unless_opened : Inc → List Effect → List Item → List Item
unless_opened j effects items = if list_any (opens j) effects then [] else items

-- the queue of an endpoint: what came to it since its opening, in order, without what its own steps
-- took out
abbrev pub queued : List Step → Inc → List Item
queued [] j = []
queued (s ∷ P) j =
    left_by (is_endpoint j (endpoint_by P s.by)) s.head (unless_opened j s.effects (queued P j))
    ++ items_in j (suc (length P)) 1 s.effects
