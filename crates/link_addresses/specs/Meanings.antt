-- The meanings of link addresses, as a list from address 1 on.
use Rattle.std.specs.Prelude.{◌≡◌, ◌≢◌, ℕ, zero, suc, ◌-◌, ◌<◌, Bool, true, false}
use Rattle.std.specs.Prelude.{if◌then◌else◌, List, [], ◌∷◌, count_by, slice_index_or, slice_set}
use Rattle.std.specs.Prelude.{Option, Some, None, option_map}
use Rattle.linx_base.specs.declared.identity.Inc.{Inc}
use Rattle.linx_base.specs.Peers.{same_inc}
use Rattle.link_addresses.specs.declared.meaning.Meaning.{Meaning}
use Rattle.link_addresses.specs.declared.meaning.Meaning.TheVariants.{Free, Live, Closing}

-- the meaning of an address: 0 and the addresses past the list's end are free
abbrev pub meaning_of : List Meaning → ℕ → Meaning
meaning_of meanings zero = Free
meaning_of meanings (suc k) = slice_index_or meanings k Free

-- the list with another meaning of an address that is in it
abbrev pub with_meaning : List Meaning → ℕ → Meaning → List Meaning
with_meaning meanings addr meaning = slice_set meanings (addr - 1) meaning

-- the incarnation is live: some address means it
abbrev pub IsLive : List Meaning → Inc → Type 0
IsLive meanings inc = (addr : ℕ) × (meaning_of meanings addr ≡ Live inc)

-- an address that is live or closing
abbrev pub is_used : Meaning → Bool
is_used Free = false
is_used (Live inc) = true
is_used (Closing inc) = true

-- the number of addresses that are live or closing
abbrev pub used_in : List Meaning → ℕ
used_in meanings = count_by is_used meanings

-- one of the addresses from 1 to 2^32 - 1 is free
abbrev pub HasAddressLeft : List Meaning → Type 0
HasAddressLeft meanings = used_in meanings < 4294967295

-- the lowest free address
unfoldable pub lowest_free : List Meaning → ℕ
lowest_free [] = 1
lowest_free (Free ∷ meanings) = 1
lowest_free (Live inc ∷ meanings) = suc (lowest_free meanings)
lowest_free (Closing inc ∷ meanings) = suc (lowest_free meanings)

-- the list with a meaning at the lowest free address, which may be one past its end
unfoldable pub with_lowest : List Meaning → Meaning → List Meaning
with_lowest [] meaning = meaning ∷ []
with_lowest (Free ∷ meanings) meaning = meaning ∷ meanings
with_lowest (Live inc ∷ meanings) meaning = Live inc ∷ with_lowest meanings meaning
with_lowest (Closing inc ∷ meanings) meaning = Closing inc ∷ with_lowest meanings meaning

-- the address is free, and none below it is
pub record IsLowestFree (meanings : List Meaning) (addr : ℕ) : Type 0 where
  pub is_address : 0 < addr
  pub free : meaning_of meanings addr ≡ Free
  pub lowest : (lower : ℕ) → 0 < lower → lower < addr → meaning_of meanings lower ≢ Free

-- the meaning is that the incarnation is live
abbrev pub means_live : Inc → Meaning → Bool
means_live inc Free = false
means_live inc (Live other) = same_inc inc other
means_live inc (Closing other) = false

-- the address at which an incarnation is live
unfoldable pub address_of : List Meaning → Inc → Option ℕ
address_of [] inc = None
address_of (meaning ∷ meanings) inc = (if means_live inc meaning then Some 1
    else option_map suc (address_of meanings inc))

-- one address has this meaning, and every other keeps its own
pub record ChangesMeaning (old new : List Meaning) (addr : ℕ) (meaning : Meaning) : Type 0 where
  pub here : meaning_of new addr ≡ meaning
  pub others : (other : ℕ) → other ≢ addr → meaning_of new other ≡ meaning_of old other

-- no address that is live or closing becomes free
abbrev pub KeepsUsed : List Meaning → List Meaning → Type 0
KeepsUsed old new = (addr : ℕ) → meaning_of old addr ≢ Free → meaning_of new addr ≢ Free
