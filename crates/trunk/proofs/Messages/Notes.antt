-- One more note of what became of a side.
use Rattle.std.proofs.Common.{◌≡◌, List, [], ◌∷◌, ◌++◌, refl}
use Rattle.linx_base.specs.Numbers.{first_session}
use Rattle.trunk_record.specs.Records.{SideRecord}
use Rattle.trunk_record.specs.Changes.{new_side}
use Rattle.trunk.specs.declared.note.Note.{Note}
use Rattle.trunk.specs.Notes.{noted, noted_all, record_of}

noted_more : (A : SideRecord) (notes : List Note) (note : Note)
    → noted_all A (notes ++ note ∷ []) ≡ noted (noted_all A notes) note
unfolding noted_all
noted_more A [] note = refl
noted_more A (n ∷ notes) note = noted_more (noted A n) notes note

pub one_more : (notes : List Note) (note : Note)
    → record_of (notes ++ note ∷ []) ≡ noted (record_of notes) note
one_more notes note = noted_more (new_side (first_session 1)) notes note

pub none_yet : record_of [] ≡ new_side (first_session 1)
unfolding noted_all
none_yet = refl
