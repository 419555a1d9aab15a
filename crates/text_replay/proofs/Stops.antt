-- Why no run of a script has a text, by what its parts gave.
use Rattle.std.proofs.Common.{◌≡◌, ℕ, List, IfErr, Result, Ok, Err}
use Rattle.journal.specs.Logs.{Log}
use Rattle.journal.specs.declared.effect.Step.{Step}
use Rattle.journal_read.specs.Reading.{read_in}
use Rattle.script_lang.specs.Parts.{ScriptParts}
use Rattle.text_replay.specs.Laws.{OthersAreNone}
use Rattle.text_replay.specs.Replays.{IsStopIn, IsToldRun}
use Rattle.text_replay.specs.Stops.{IsTextStop}
use Rattle.text_replay.specs.declared.stop.ReplayStop.{ReplayStop}
use Rattle.text_replay.specs.declared.stop.ReplayStop.TheVariants.{Other, NoMemory}

module _ (law : OthersAreNone) (script : ScriptParts) (text : List ℕ) (P : List Step) (log : Log)
    (told : read_in script.names text ≡ Ok P) (run : IsToldRun script P log) where
  other_stop : (stop : ReplayStop) → IsTextStop log text stop → IsStopIn script text stop
  other_stop (Other line) is = record {
    steps = P;
    log = log;
    read = told;
    run = run;
    first = is;
    none = law script text P log line told run is;
  }
  other_stop NoMemory is = tt
  other_stop _ is = absurd is

  -- the run of the text has another text
  pub other_ended : (compared : Result ℕ ReplayStop) → IfErr compared (IsTextStop log text)
      → IfErr compared (IsStopIn script text)
  other_ended (Ok steps) ended = tt
  other_ended (Err stop) ended = other_stop stop ended
