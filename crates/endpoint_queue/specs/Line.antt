-- A line: items of one number, none of which is a notice.
use Rattle.std.specs.Prelude.{◌≡◌, ℕ, List, None}
use Rattle.std.specs.List.{AllByRecursion}
use Rattle.linx_base.specs.declared.item.Item.{Item}
use Rattle.endpoint_queue.specs.Keys.{attach_key}

-- the item has this number and is no notice
abbrev pub IsOfLine : ℕ → Item → Type 0
IsOfLine number item = (item.signal.number ≡ number) × (attach_key item.kind ≡ None)

-- the items all have this number, and none is a notice
abbrev pub IsLine : ℕ → List Item → Type 0
IsLine number items = AllByRecursion (IsOfLine number) items

-- the item may stand behind those of a line: it has their number, and is no notice
abbrev pub FitsLine : List Item → Item → Type 0
FitsLine items item = IsLine item.signal.number items × (attach_key item.kind ≡ None)
