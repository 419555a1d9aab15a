-- Tables of names, and what was given to each.
use Rattle.std.specs.Prelude.{ℕ, Bool, List, Option, Some, None, is_some, if◌then◌else◌}
use Rattle.std.specs.declared.cmp.Ordering.{Ordering}
use Rattle.std.specs.Ordering.{nat_cmp}
use Rattle.std.specs.Cmp.Lexicographic.{slice_cmp}
use Rattle.std.specs.BTreeMap.{insert_entry, is_at}
use Rattle.std.specs.Map.{lookup as found, set_value}

-- a table has a row for each name, in the order of the names, with what was given to it
abbrev pub Table : Type 0 → Type 0
Table T = List (List ℕ × Option T)

-- names are in order by their bytes
abbrev pub name_order : List ℕ → List ℕ → Ordering
name_order = slice_cmp nat_cmp

-- what was given to the name of a row, if the name has one
abbrev pub given_in : {T : Type 0} → Option (Option T) → Option T
given_in None = None
given_in (Some given) = given

-- what was given to a name
abbrev pub lookup : {T : Type 0} → Table T → List ℕ → Option T
lookup rows name = given_in (found (is_at (name_order name)) rows)

-- the table after this is given to a name
abbrev pub remember : {T : Type 0} → Table T → List ℕ → T → Table T
remember rows name value = set_value (is_at (name_order name)) rows (Some value)

-- a row of the table has this name
abbrev pub has_row : {T : Type 0} → Table T → List ℕ → Bool
has_row rows name = is_some (found (is_at (name_order name)) rows)

-- the table with one more name, to which nothing was given, unless it is there
abbrev pub with_row : {T : Type 0} → Table T → List ℕ → Table T
with_row rows name = if has_row rows name then rows else insert_entry name_order rows name None

-- the table with one more name, to which nothing was given, where a command speaks of a name
abbrev pub with_row_for : {T : Type 0} → Table T → Option (List ℕ) → Table T
with_row_for rows None = rows
with_row_for rows (Some name) = with_row rows name
