-- What is kept beside the meanings, so that nothing is searched for.
use Rattle.std.specs.Prelude.{◌≡◌, ◌≢◌, ℕ, suc, ◌<◌, ◌≤◌, ◌*◌, ◌/◌, ◌==◌, if◌then◌else◌, Bool, true}
use Rattle.std.specs.Prelude.{false, List, [], ◌∷◌, ◌++◌, length, slice_index_or, slice_set, Option}
use Rattle.std.specs.Prelude.{Some}
use Rattle.linx_base.specs.declared.identity.Inc.{Inc}
use Rattle.link_addresses.specs.declared.meaning.Meaning.{Meaning}
use Rattle.link_addresses.specs.declared.meaning.Meaning.TheVariants.{Free, Live}
use Rattle.link_addresses.specs.Meanings.{meaning_of}

-- the index has the address of each live incarnation
abbrev pub IsIndexOf : (ℕ → Option ℕ) → List Meaning → Type 0
IsIndexOf index meanings =
    (inc : Inc) (addr : ℕ) → meaning_of meanings addr ≡ Live inc → index inc.0 ≡ Some addr

-- the index as a function of an incarnation's number, with this answer for one
abbrev pub AnswersAt : (ℕ → Option ℕ) → (ℕ → Option ℕ) → ℕ → Option ℕ → Type 0
AnswersAt old new inc answer =
    (number : ℕ) → new number ≡ (if inc == number then answer else old number)

-- the number of places in a group
abbrev pub group_size : ℕ
group_size = 128

-- no place from one on, before another, is free; the place of address 1 is 0
abbrev pub NoneFree : List Meaning → ℕ → ℕ → Type 0
NoneFree meanings from to =
    (place : ℕ) → from ≤ place → place < to → meaning_of meanings (suc place) ≢ Free

-- the first free place, which may be the one past the end
pub record IsFirstFree (meanings : List Meaning) (place : ℕ) : Type 0 where
  pub within : place ≤ length meanings
  pub none : NoneFree meanings 0 place
  pub free : meaning_of meanings (suc place) ≡ Free

-- the meanings after one was put at a place, which may be the one past the end
pub record IsPut (old : List Meaning) (place : ℕ) (meaning : Meaning) (new : List Meaning) : Type 0
  where
    pub within : place ≤ length old
    pub inside : place < length old → new ≡ slice_set old place meaning
    pub past : place ≡ length old → new ≡ old ++ meaning ∷ []

-- the most groups that the addresses need
abbrev pub group_limit : ℕ
group_limit = 33554432

-- each place is in a group, and none in a full group is free
pub record AreGroups (full : List Bool) (meanings : List Meaning) : Type 0 where
  pub few : length full ≤ group_limit
  pub grouped : length meanings ≤ group_size * length full
  pub taken : (place : ℕ) → place < length meanings
      → slice_index_or full (place / group_size) false ≡ true
      → meaning_of meanings (suc place) ≢ Free
