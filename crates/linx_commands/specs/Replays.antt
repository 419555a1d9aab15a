-- How the replay of a printed text ends, of an input that has a script and behind it the text.
use Rattle.std.specs.Prelude.{ℕ, ◌≡◌, ◌≤◌, ◌<◌, List, codes, length, Some, None}
use Rattle.script_texts.specs.Places.{script_in, text_in}
use Rattle.text_replay.specs.Replays.{IsReplayed, IsStopOf}
use Rattle.text_replay.specs.declared.stop.ReplayStop.{ReplayStop}
use Rattle.text_replay.specs.declared.stop.ReplayStop.TheVariants as stops
use Rattle.linx_commands.specs.Printed.{text_most}
use Rattle.linx_commands.specs.Verdicts.{verdict_line}
use Rattle.linx_commands.specs.declared.outcome.Status.{Status}
use Rattle.linx_commands.specs.declared.outcome.Status.TheVariants.{Done, Script, WriteFault}
use Rattle.linx_commands.specs.declared.outcome.Status.TheVariants.{NoMemory, Text, Unlike}
use Rattle.linx_commands.specs.declared.outcome.TextFault.{TextFault}
use Rattle.linx_commands.specs.declared.outcome.TextFault.TheVariants.{Bad, Full, Long, Missing}
use Rattle.linx_commands.specs.declared.outcome.Unlike.{Unlike as UnlikeBy}
use Rattle.linx_commands.specs.declared.outcome.Unlike.TheVariants.{Line, Filled}

-- an input has a script and the text of a run of it, and this is written of that
pub record IsSame (bytes text : List ℕ) : Type 0 where
  pub short : length bytes ≤ text_most
  pub printed : List ℕ
  pub there : text_in bytes ≡ Some printed
  pub steps : ℕ
  pub replayed : IsReplayed (script_in bytes) printed steps
  pub is : text ≡ verdict_line (codes "same") steps

-- an input has a script and a text of which no run comes, for this reason
pub record IsUnlike (bytes : List ℕ) (stop : ReplayStop) : Type 0 where
  pub short : length bytes ≤ text_most
  pub printed : List ℕ
  pub there : text_in bytes ≡ Some printed
  pub why : IsStopOf (script_in bytes) printed stop

-- an input that isn't too long has no text
pub record HasNoText (bytes : List ℕ) : Type 0 where
  pub short : length bytes ≤ text_most
  pub none : text_in bytes ≡ None

-- what is wrong with the text of an input
abbrev pub IsFaultBehind : List ℕ → TextFault → Type 0
IsFaultBehind bytes (Bad line) = IsUnlike bytes (stops.Unread line)
IsFaultBehind bytes (Full line) = IsUnlike bytes (stops.Full line)
IsFaultBehind bytes Long = text_most < length bytes
IsFaultBehind bytes Missing = HasNoText bytes
IsFaultBehind bytes _ = ⊥

-- how the text of an input shows that no run of its script has it
abbrev pub IsUnlikeBy : List ℕ → UnlikeBy → Type 0
IsUnlikeBy bytes (Line line) = IsUnlike bytes (stops.Other line)
IsUnlikeBy bytes Filled = IsUnlike bytes stops.JournalFull

-- WHAT EACH STATUS SAYS of the replay of this input, and of the text that is written of it
abbrev pub IsReplayEnd : List ℕ → Status → List ℕ → Type 0
IsReplayEnd bytes Done text = IsSame bytes text
IsReplayEnd bytes WriteFault text = IsSame bytes text
IsReplayEnd bytes (Script line fault) text = IsUnlike bytes (stops.Bad line fault)
IsReplayEnd bytes (Text fault) text = IsFaultBehind bytes fault
IsReplayEnd bytes (Unlike unlike) text = IsUnlikeBy bytes unlike
IsReplayEnd bytes NoMemory text = Unit {0}
IsReplayEnd bytes _ text = ⊥

-- how a replay ends that found no run
abbrev pub replay_status : ReplayStop → Status
replay_status (stops.Bad line fault) = Script line fault
replay_status (stops.Unread line) = Text (Bad line)
replay_status (stops.Full line) = Text (Full line)
replay_status (stops.Other line) = Unlike (Line line)
replay_status stops.JournalFull = Unlike Filled
replay_status stops.NoMemory = NoMemory
