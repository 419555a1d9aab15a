-- The record of a side as notes, and what they say of its sessions.
use Rattle.std.specs.Prelude.{List, [], ◌∷◌}
use Rattle.linx_base.specs.Numbers.{first_session}
use Rattle.trunk_record.specs.Records.{SideRecord}
use Rattle.trunk_record.specs.Sayings.{arrived, asked, asked_for, freed, gone, met, published}
use Rattle.trunk_record.specs.Sayings.{signaled, unpublished}
use Rattle.trunk_record.specs.Changes.{beginning, giving, going_up, new_side, saying}
use Rattle.trunk.specs.declared.note.Note.{Note}
use Rattle.trunk.specs.declared.note.Note.TheVariants.{Began, WentUp, Published, Asked, Signaled}
use Rattle.trunk.specs.declared.note.Note.TheVariants.{Unpublished, Met, AskedFor, Arrived, Freed}
use Rattle.trunk.specs.declared.note.Note.TheVariants.{Gone}

-- the record of a side after one more note
abbrev pub noted : SideRecord → Note → SideRecord
noted A (Began session) = beginning session A
noted A (WentUp peer) = going_up peer A
noted A (Published inc name) = saying (published inc name ∷ []) A
noted A (Asked name) = saying (asked name ∷ []) A
noted A (Signaled from to signal) = saying (signaled from to signal ∷ []) A
noted A (Unpublished inc) = saying (unpublished inc ∷ []) A
noted A (Met inc name) = giving (met inc name) A
noted A (AskedFor name) = giving (asked_for name) A
noted A (Arrived from to signal) = giving (arrived from to signal) A
noted A (Freed from to signal) = giving (freed from to signal) A
noted A (Gone inc) = giving (gone inc) A

-- what these notes say, oldest first
unfoldable pub noted_all : SideRecord → List Note → SideRecord
noted_all A [] = A
noted_all A (n ∷ ns) = noted_all (noted A n) ns

-- a side of which these notes were taken since the first session of boot 1
abbrev pub record_of : List Note → SideRecord
record_of notes = noted_all (new_side (first_session 1)) notes
