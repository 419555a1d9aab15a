-- That a whole run comes again by the text of its script and the lines of its turns.
use Rattle.std.specs.Prelude.{ℕ, ◌≡◌, true, List, Ok, map}
use Rattle.fabric.specs.Run.{Layout}
use Rattle.journal.specs.declared.effect.Step.{Step}
use Rattle.order_lines.specs.Fronts.{makers_of, ordered_of}
use Rattle.orders.specs.Turns.{turns_of}
use Rattle.script_lang.specs.Parts.{ScriptParts}
use Rattle.stage.specs.Plays.{IsSoFar}
use Rattle.stage.specs.Turns.{is_over}
use Rattle.turn_lines.specs.Reading.{number_among}
use Rattle.turn_lines.specs.Turns.{turn_makers}
use Rattle.runs_again.specs.Again.{ComesAgainBy, IsShort, SpellsAlone, with_turns_of}

-- the turns that an order lists of a journal are those that lines are written of, by number
abbrev pub TurnsAreOne : Type 0
TurnsAreOne =
    (script : ScriptParts) (P : List Step)
    → turns_of script P ≡ map (number_among (makers_of script)) (turn_makers P)

-- A SCRIPT WITH THE LINES OF A RUN of it behind is this script, with the turns of the run first
abbrev pub TurnsAreSpelled : Type 0
TurnsAreSpelled =
    (bytes : List ℕ) (script : ScriptParts) (run : Layout) → SpellsAlone bytes script
    → IsSoFar script run → IsShort (with_turns_of bytes run.log.steps)
    → ordered_of (with_turns_of bytes run.log.steps)
    ≡ Ok (record { script = script; front = turns_of script run.log.steps })

-- A WHOLE RUN COMES AGAIN, made by threads or not, by its script with the lines of its journal
abbrev pub RunsComeAgain : Type 0
RunsComeAgain =
    (bytes : List ℕ) (script : ScriptParts) (run : Layout) → SpellsAlone bytes script
    → IsSoFar script run → is_over run ≡ true → IsShort (with_turns_of bytes run.log.steps)
    → ComesAgainBy (with_turns_of bytes run.log.steps) run
