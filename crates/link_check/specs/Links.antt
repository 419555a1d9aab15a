-- The law of links as a test.
use Rattle.std.specs.Prelude.{ℕ, Bool, true, ◌&&◌, nat_le, nat_lt}
use Rattle.linx_base.specs.declared.identity.LinkNo.{LinkNo}
use Rattle.journal.specs.declared.head.Head.{Head}
use Rattle.journal.specs.declared.head.Head.TheVariants.{Cut, Mend, Settle, Tick, Wire}

-- a link is one of so many, by its number from 1
abbrev pub is_link : ℕ → LinkNo → Bool
is_link links l = nat_lt 0 l.0 && nat_le l.0 links

-- what a head says of a link is said of one of so many
abbrev pub is_of_link : ℕ → Head → Bool
is_of_link links (Wire l from verdict) = is_link links l
is_of_link links (Tick l side) = is_link links l
is_of_link links (Cut l) = is_link links l
is_of_link links (Mend l) = is_link links l
is_of_link links (Settle l) = is_link links l
is_of_link links _ = true
