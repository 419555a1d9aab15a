-- What is seen of a run that isn't whole.
use Rattle.std.specs.Prelude.{Option, None, Result, Ok, Err}
use Rattle.fabric.specs.declared.stop.StopCause.{StopCause}
use Rattle.fabric.specs.declared.stop.StopCause.TheVariants as causes
use Rattle.run_outcomes.specs.SeenParts.{SeenParts}
use Rattle.script_lang.specs.declared.script_error.ScriptError.{ScriptError}
use Rattle.script_lang.specs.declared.script_error.ScriptError.TheVariants as scripts
use Rattle.seed_runs.specs.declared.runs.RunStop.{RunStop}
use Rattle.seed_runs.specs.declared.runs.RunStop.TheVariants.{Bad, Stopped, NoMemory}

-- a full journal shows nothing, and is no fault; want of memory is one
abbrev pub seen_of_cause : StopCause → Result (Option SeenParts) ScriptError
seen_of_cause causes.JournalFull = Ok None
seen_of_cause causes.NoMemory = Err scripts.NoMemory

-- what a run that stopped shows: nothing where its journal was full, else why there is no report
abbrev pub seen_of_stop : RunStop → Result (Option SeenParts) ScriptError
seen_of_stop (Bad line fault) = Err (scripts.Bad line fault)
seen_of_stop (Stopped cause journal) = seen_of_cause cause
seen_of_stop NoMemory = Err scripts.NoMemory
