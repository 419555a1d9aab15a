use Rattle.std.proofs.Common.{◌≡◌, ◌≢◌, ◌*◌, ◌<◌, ℕ, suc, length}
use Rattle.link_addresses.specs.declared.meaning.Meaning.TheVariants.{Free}
use Rattle.link_addresses.specs.Meanings.{meaning_of}
use Rattle.link_addresses.specs.Finding.{group_size, AreGroups}
use Rattle.link_addresses.proofs.groups.first_free.Given as goal

-- none of the places in the groups so far is free
abbrev pub invariant-loop-group : goal.invariant-loop-group
invariant-loop-group l =
    AreGroups l.full.items l.meanings
    × (length l.full.items ≡ length l.fn.full.items)
    × ((place : ℕ) → place < length l.meanings → place < l.group * group_size
    → meaning_of l.meanings (suc place) ≢ Free)
