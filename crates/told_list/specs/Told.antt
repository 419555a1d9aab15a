-- The items of a list that contracts alone read.
use Rattle.std.specs.Prelude.{List, [], ◌∷◌, ◌++◌}
use Rattle.told_list.specs.declared.told_list.Told.{Told, Start, More', Same'}

-- the items, oldest first
abbrev pub listed : {T : Type 0} → Told T → List T
listed Start = []
listed (More' item p before) = listed before ++ item ∷ []
listed (Same' p items) = listed items
