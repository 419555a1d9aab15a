use Rattle.std.specs.Prelude.{Bool, false, ◌==◌, List, Option}
use Rattle.linx_base.specs.FirstMatch.{first_match, without_match}
use Rattle.linx_base.specs.declared.identity.AttRef.{AttRef}
use Rattle.sigsel.specs.Selects.{selects}
use Rattle.sigsel.specs.declared.sigsel.Sigsel.{Sigsel}
use Rattle.linx_base.specs.declared.item.Item.{Item}
use Rattle.linx_base.specs.declared.item.Kind.{Kind}
use Rattle.linx_base.specs.declared.item.Kind.TheVariants.{Plain, Found, Notice}

-- a filter selects an item by its signal's number
abbrev pub is_selected : Sigsel → Item → Bool
is_selected sel item = selects sel item.signal.number

-- items of this kind are the notice of this attach
abbrev pub is_notice_kind : AttRef → Kind → Bool
is_notice_kind r Plain = false
is_notice_kind r (Found hunt) = false
is_notice_kind r (Notice attach) = attach.0 == r.0

-- the item is the notice of this attach
abbrev pub is_notice_of : AttRef → Item → Bool
is_notice_of r item = is_notice_kind r item.kind

-- the first item that a filter selects
abbrev pub first_selected : Sigsel → List Item → Option Item
first_selected sel items = first_match (is_selected sel) items

-- the items without the first selected one: the others keep their order
abbrev pub without_first : Sigsel → List Item → List Item
without_first sel items = without_match (is_selected sel) items
