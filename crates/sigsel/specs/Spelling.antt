use Rattle.std.specs.Prelude.{Bool, true, false, ◌==◌, ◌≢◌, nat_lt, ℤ, pos, negsuc, neg_ℤ}
use Rattle.std.specs.Prelude.{unsigned_abs, List, [], ◌∷◌, length, map}
use Rattle.std.specs.List.{list_all}
use Rattle.sigsel.specs.declared.sigsel.Sigsel.{Sigsel}
use Rattle.sigsel.specs.declared.sigsel.Sigsel.TheVariants.{Any, Only, Not}

-- the list that spells a filter: a count, and the listed numbers
abbrev pub spelling_of : Sigsel → List ℤ
spelling_of Any = pos 0 ∷ []
spelling_of (Only listed) = pos (length listed) ∷ map pos listed
spelling_of (Not listed) = neg_ℤ (pos (length listed)) ∷ map pos listed

-- a filter that lists numbers lists at least one: the count 0 selects all
abbrev pub IsCounted : Sigsel → Type 0
IsCounted Any = Unit {0}
IsCounted (Only listed) = listed ≢ []
IsCounted (Not listed) = listed ≢ []

-- a count stands first, and its magnitude is the number of the rest
abbrev pub has_count : List ℤ → Bool
has_count [] = false
has_count (count ∷ rest) = unsigned_abs count == length rest

-- a number that a signal can have
abbrev pub is_number : ℤ → Bool
is_number (pos n) = nat_lt n 4294967296
is_number (negsuc n) = false

-- what stands behind the count are numbers that signals can have
abbrev pub lists_numbers : List ℤ → Bool
lists_numbers [] = true
lists_numbers (count ∷ rest) = list_all is_number rest
