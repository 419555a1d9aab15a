-- The record of a side as notes, and what they say of its sessions.
use Rattle.std.specs.Prelude.{List, [], ◌∷◌, ◌++◌}
use Rattle.linx_base.specs.declared.frame.Message.{Message}
use Rattle.ethcm_end.specs.States.{EndState}
use Rattle.carrier.specs.declared.note.Note.{Note}
use Rattle.carrier.specs.declared.note.Note.TheVariants.{Offered, Handed, Ended}
use Rattle.carrier.specs.Records.{Entry, HalfState}

-- what was offered and handed up since the last session ended, and the ended sessions, newest first
pub record Sessions : Type 0 where
  pub offered : List Message
  pub handed : List Message
  pub past : List Entry

-- nothing was offered or handed up yet, and no session has ended
abbrev pub no_sessions : Sessions
no_sessions = record { offered = []; handed = []; past = [] }

-- what is recorded of sessions after one more note
abbrev pub noted : Sessions → Note → Sessions
noted s (Offered m) = record s { offered = s.offered ++ m ∷ [] }
noted s (Handed m) = record s { handed = s.handed ++ m ∷ [] }
noted s (Ended session peer) =
    record {
      offered = [];
      handed = [];
      past =
          record { number = session; peer = peer; offered = s.offered; handed = s.handed } ∷ s.past;
    }

-- what these notes say, oldest first
unfoldable pub noted_all : Sessions → List Note → Sessions
noted_all s [] = s
noted_all s (n ∷ ns) = noted_all (noted s n) ns

-- a side with this end, of which these sessions are recorded
abbrev pub half_of_sessions : EndState → Sessions → HalfState
half_of_sessions end s =
    record { end = end; offered = s.offered; handed = s.handed; past = s.past }

-- a side with this end and these notes
abbrev pub half_with : EndState → List Note → HalfState
half_with end notes = half_of_sessions end (noted_all no_sessions notes)
