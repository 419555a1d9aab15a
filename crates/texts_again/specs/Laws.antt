-- That a whole run comes again by its printed text.
use Rattle.std.specs.Prelude.{ℕ, ◌≡◌, true, List, Ok}
use Rattle.fabric.specs.Run.{Layout}
use Rattle.journal.specs.Logs.{Log}
use Rattle.journal.specs.declared.effect.Step.{Step}
use Rattle.journal_read.specs.Printed.{AllFit}
use Rattle.journal_read.specs.Reading.{read_in}
use Rattle.journal_text.specs.Text.{text_of}
use Rattle.reading_laws.specs.Forms.{AreNames}
use Rattle.script_lang.specs.Parts.{ScriptParts}
use Rattle.stage.specs.Plays.{IsSoFar}
use Rattle.stage.specs.Turns.{is_over}
use Rattle.turn_lines.specs.Turns.{turn_makers}
use Rattle.runs_again.specs.Again.{ComesAgainBy, IsShort, SpellsAlone, with_turns_of}

-- what is read of the text of a run tells the turns of the run
abbrev pub TextsTellTurns : Type 0
TextsTellTurns =
    (log : Log) → AreNames log.names → AllFit log.names log.steps → (R : List Step)
    → read_in log.names (text_of log) ≡ Ok R → turn_makers R ≡ turn_makers log.steps

-- SO A WHOLE RUN COMES AGAIN BY ITS TEXT: by its script with the lines of what is read of the text
abbrev pub TextsMakeRunsAgain : Type 0
TextsMakeRunsAgain =
    (bytes : List ℕ) (script : ScriptParts) (run : Layout) → SpellsAlone bytes script
    → IsSoFar script run → is_over run ≡ true → AllFit script.names run.log.steps
    → (R : List Step) → read_in script.names (text_of run.log) ≡ Ok R
    → IsShort (with_turns_of bytes R) → ComesAgainBy (with_turns_of bytes R) run
