-- What the calls of a trunk make of a side's record.
use Rattle.std.specs.Prelude.{ℕ, List, [], ◌∷◌, ◌++◌, if◌then◌else◌, Some, None}
use Rattle.linx_base.specs.declared.identity.Inc.{Inc}
use Rattle.linx_base.specs.declared.identity.Session.{Session}
use Rattle.linx_base.specs.SigNotes.{SigNote}
use Rattle.trunk_record.specs.Records.{SessionRecord, SideRecord}
use Rattle.trunk_record.specs.Sayings.{Given, Said, is_live, published, signaled}

-- a side that said more, the newest first
abbrev pub saying : List Said → SideRecord → SideRecord
saying more A = record A { now = record A.now { said = more ++ A.now.said } }

-- a side that was given one thing more
abbrev pub giving : Given → SideRecord → SideRecord
giving g A = record A { now = record A.now { given = g ∷ A.now.given } }

-- a side that went up with a session of the other side
abbrev pub going_up : Session → SideRecord → SideRecord
going_up y A = record A { now = record A.now { peer = Some y } }

-- a session in which nothing was said as yet
abbrev pub fresh : Session → SessionRecord
fresh x = record { session = x; peer = None; said = []; given = [] }

-- a side before its first session goes up
abbrev pub new_side : Session → SideRecord
new_side x = record { now = fresh x; earlier = [] }

-- a side whose session ended: it begins the next one
abbrev pub beginning : Session → SideRecord → SideRecord
beginning x A = record { now = fresh x; earlier = A.now ∷ A.earlier }

-- what a send of a named incarnation says: that one is published first, unless it is live
abbrev pub says_sending : Inc → List ℕ → Inc → SigNote → SideRecord → List Said
says_sending j name b note A =
    signaled j b note ∷ (if is_live j A.now.said then [] else published j name ∷ [])
