-- How a list of meanings goes back to what it was when an event began.
use Rattle.std.specs.Prelude.{◌≡◌, ℕ, Bool, ◌+◌, ◌≤◌, ◌<◌, List, [], ◌∷◌, length, take, slice_set}
use Rattle.std.specs.Prelude.{Option, Some, None, sum_by, IsSome, ⊤}
use Rattle.linx_base.specs.Both.{Both}
use Rattle.linx_base.specs.declared.identity.Inc.{Inc}
use Rattle.link_addresses.specs.declared.meaning.Meaning.{Meaning}
use Rattle.link_addresses.specs.declared.meaning.Meaning.TheVariants.{Free, Live, Closing}
use Rattle.link_addresses.specs.declared.change.Change.{Change}
use Rattle.link_addresses.specs.Meanings.{IsLive, used_in}
use Rattle.link_addresses.specs.Finding.{IsIndexOf, AreGroups}

-- what a place had, and whom the change is about
abbrev pub change_of : ℕ → Option Meaning → Inc → Change
change_of place former inc = record { place = place; former = former; inc = inc }

-- the meanings with what a place had; where it had nothing, the list ends before it
abbrev pub with_former : List Meaning → ℕ → Option Meaning → List Meaning
with_former meanings place (Some meaning) = slice_set meanings place meaning
with_former meanings place None = take place meanings

-- the meanings before these changes, oldest first
abbrev pub undone : List Change → List Meaning → List Meaning
undone [] meanings = meanings
undone (change ∷ changes) meanings = with_former (undone changes meanings) change.place
    change.former

-- what a place had can come back: an incarnation that was live isn't live elsewhere, and the index
-- has an entry for it
abbrev pub CanReturn : (ℕ → Option ℕ) → List Meaning → ℕ → Option Meaning → Type 0
CanReturn index meanings place None = ⊤
CanReturn index meanings place (Some Free) = place < length meanings
CanReturn index meanings place (Some (Live inc)) =
    (place < length meanings) × (place < 4294967295) × (¬ (IsLive meanings inc))
    × IsSome (index inc.0)
CanReturn index meanings place (Some (Closing inc)) = place < length meanings

-- the changes can be undone, the last one first
abbrev pub CanUndo : (ℕ → Option ℕ) → List Change → List Meaning → Type 0
CanUndo index [] meanings = ⊤
CanUndo index (change ∷ changes) meanings =
    CanReturn index (undone changes meanings) change.place change.former
    × CanUndo index changes meanings

-- how often an address still changes until it is free
abbrev pub changes_left : Meaning → ℕ
changes_left Free = 0
changes_left (Live inc) = 2
changes_left (Closing inc) = 1

-- how many changes can come without a further publishing
abbrev pub changes_left_in : List Meaning → ℕ
changes_left_in meanings = sum_by changes_left meanings

-- the list of changes has room for all that can come, also after an undo
pub record HasRoom (capacity : ℕ) (changes : List Change) (was is : List Meaning) : Type 0 where
  pub now : length changes + changes_left_in is ≤ capacity
  pub before : changes_left_in was ≤ capacity

-- all that is kept beside the meanings
pub record IsTable (index : ℕ → Option ℕ) (meanings : List Meaning) (full : List Bool)
    (changes : List Change) (capacity used old_used : ℕ) : Type 0 where
  pub indexed : IsIndexOf index meanings
  pub groups : AreGroups full meanings
  pub can_undo : CanUndo index changes meanings
  pub room : HasRoom capacity changes (undone changes meanings) meanings
  pub counted : used ≡ used_in meanings
  pub old_counted : old_used ≡ used_in (undone changes meanings)

-- the meanings when the event began: those of the connection in which it began
abbrev pub was_of : Option (Both (List Meaning)) → Both (List Meaning) → List Meaning
was_of None now = now.was
was_of (Some before) now = before.was
