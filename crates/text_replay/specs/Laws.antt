-- That the makers of its turns decide whether a text is that of a run.
use Rattle.std.specs.Prelude.{ℕ, ◌≡◌, Some, Ok, List}
use Rattle.fabric.specs.declared.stop.StopCause.TheVariants.{JournalFull}
use Rattle.journal.specs.Logs.{Log}
use Rattle.journal.specs.declared.effect.Step.{Step}
use Rattle.journal_read.specs.Reading.{read_in}
use Rattle.journal_text.specs.Text.{text_of}
use Rattle.script_lang.specs.Parts.{ScriptParts}
use Rattle.text_replay.specs.Lines.{other_line}
use Rattle.text_replay.specs.Replays.{IsTextOfNone, IsToldRun, IsToldStop}

-- A TEXT WITH ANOTHER LINE than the run that its makers make is that of no whole run
abbrev pub OthersAreNone : Type 0
OthersAreNone =
    (script : ScriptParts) (text : List ℕ) (P : List Step) (log : Log) (line : ℕ)
    → read_in script.names text ≡ Ok P → IsToldRun script P log
    → other_line text (text_of log) ≡ Some line → IsTextOfNone script text

-- A TEXT WHOSE MAKERS FILL THE JOURNAL before all is over is that of no whole run
abbrev pub FilledAreNone : Type 0
FilledAreNone =
    (script : ScriptParts) (text : List ℕ) (P : List Step)
    → read_in script.names text ≡ Ok P → IsToldStop script P JournalFull → IsTextOfNone script text
