-- What tells a side, with no list of the incarnations that it unpublished, that it may publish one.
use Rattle.std.specs.Prelude.{ℕ, max, nat_lt, Bool, ◌&&◌, ◌||◌, List, [], ◌∷◌}
use Rattle.linx_base.specs.declared.identity.Inc.{Inc}
use Rattle.link_addresses.specs.Meanings.{used_in}
use Rattle.trunk_record.specs.Sayings.{Said, asked, is_live, published, signaled, unpublished}
use Rattle.trunk.specs.Events.{TrunkSide}
use Rattle.trunk.specs.declared.note.Note.{Note}
use Rattle.trunk.specs.declared.note.Note.TheVariants.{Began, WentUp, Published, Asked, Signaled}
use Rattle.trunk.specs.declared.note.Note.TheVariants.{Unpublished, Met, AskedFor, Arrived, Freed}
use Rattle.trunk.specs.declared.note.Note.TheVariants.{Gone}

-- the greatest number of an incarnation that was unpublished in what was said, 0 where none was
abbrev pub newest_unpublished : List Said → ℕ
newest_unpublished [] = 0
newest_unpublished (published inc name ∷ before) = newest_unpublished before
newest_unpublished (asked name ∷ before) = newest_unpublished before
newest_unpublished (signaled from to signal ∷ before) = newest_unpublished before
newest_unpublished (unpublished inc ∷ before) = max (newest_unpublished before) inc.0

-- the greatest number of an incarnation that was unpublished in the present session, after one more
-- note
abbrev pub newest_noted : ℕ → Note → ℕ
newest_noted newest (Began session) = 0
newest_noted newest (WentUp peer) = newest
newest_noted newest (Published inc name) = newest
newest_noted newest (Asked name) = newest
newest_noted newest (Signaled from to signal) = newest
newest_noted newest (Unpublished inc) = max newest inc.0
newest_noted newest (Met inc name) = newest
newest_noted newest (AskedFor name) = newest
newest_noted newest (Arrived from to signal) = newest
newest_noted newest (Freed from to signal) = newest
newest_noted newest (Gone inc) = newest

-- a side has an address left, and the incarnation is published, or newer than each that the side
-- unpublished in its session
abbrev pub can_publish : TrunkSide → Inc → Bool
can_publish s inc =
    nat_lt (used_in s.end.tables.own) 4294967295
    && (is_live inc s.kept.now.said || nat_lt (newest_unpublished s.kept.now.said) inc.0)
