-- Which item a receive is to take.
use Rattle.std.specs.Prelude.{List, Option, None, option_map}
use Rattle.linx_base.specs.declared.identity.ItemAt.{ItemAt}
use Rattle.linx_base.specs.declared.item.Item.{Item}
use Rattle.sigsel.specs.Selection.{first_selected}
use Rattle.sigsel.specs.declared.sigsel.Sigsel.{Sigsel}
use Rattle.journal.specs.declared.effect.Step.{Step}
use Rattle.journal.specs.declared.head.Head.{Head}
use Rattle.journal.specs.declared.head.Head.TheVariants.{Take, TakeNone, Waits}
use Rattle.journal.specs.History.{endpoint_by}
use Rattle.journal.specs.Rest.{queue_of}

-- the position of the first item that a filter selects
abbrev pub first_at : Sigsel → List Item → Option ItemAt
first_at filter items = option_map (λ (item : Item). item.pos) (first_selected filter items)

-- the position of the first of these items that the filter of a receive selects; none of another
-- head
abbrev pub earliest_of : List Item → Head → Option ItemAt
earliest_of items (Take filter position) = first_at filter items
earliest_of items (TakeNone filter) = first_at filter items
earliest_of items (Waits filter) = first_at filter items
earliest_of items _ = None

-- WHAT A RECEIVE IS TO TAKE: the position of the earliest item that its filter selects of the queue
-- of its maker's endpoint, as the steps before it leave that; none where nothing is selected, and
-- none of a step that receives nothing
abbrev pub earliest_at : List Step → Step → Option ItemAt
earliest_at P s = earliest_of (queue_of P (endpoint_by P s.by)) s.head
