-- A journal of a script reaches one state, whichever of its definitions is asked.
use Rattle.std.proofs.Common.{List, [], ◌∷◌, length}
use Rattle.journal.specs.declared.effect.Step.{Step}
use Rattle.run_states.specs.Laws.{RunsReachOneState}
use Rattle.run_states.specs.Runs.{IsRunFrom}
use Rattle.run_trunks.specs.States.{new_trunks, trunks_of}
use Rattle.script_lang.specs.Fits.{IsScript}
use Rattle.script_lang.specs.Parts.{ScriptParts}
use Rattle.trunk_moves.specs.Trunks.{Become, RunTrunks}
use Rattle.fabric.specs.Run.{IsReached}
use Rattle.fabric.proofs.Methods.Runs.{two-ends}
use Rattle.stage.specs.Plays.{IsPlanned, IsScriptRun}
use Rattle.stage.specs.Turns.{shape_of}
use Rattle.stage.proofs.Rounds.LayingOut.{laid_out}

-- a run of the script, by what its steps make of the trunks
abbrev pub IsRunOf : ScriptParts → List Step → RunTrunks → Type 0
IsRunOf script P trunks = IsRunFrom (shape_of script) (trunks_of (new_trunks script.links)) P trunks

-- the runs of the machine are
pub reached_run : (script : ScriptParts) (P : List Step) (trunks : RunTrunks)
    → IsReached (length script.names.nodes) (shape_of script) P trunks → IsRunOf script P trunks
reached_run script [] trunks first = first.1
reached_run script (s ∷ P) trunks reached =
    (reached.0, (reached_run script P reached.0 reached.1.0, reached.1.1.0))

-- and so are those as planned
pub planned_run : (script : ScriptParts) (P : List Step) (trunks : RunTrunks)
    → IsPlanned script P trunks → IsRunOf script P trunks
planned_run script [] trunks first = first.1
planned_run script (s ∷ P) trunks planned =
    (planned.0, (planned_run script P planned.0 planned.1.0, planned.1.1.0))

-- and the runs of the script, which are both
pub script_run : (script : ScriptParts) (P : List Step) (trunks : RunTrunks)
    → IsScriptRun script P trunks → IsRunOf script P trunks
script_run script [] trunks run = run.0.1
script_run script (s ∷ P) trunks run =
    (run.0, (script_run script P run.0 run.1.0, run.1.1.makes))

-- A JOURNAL OF THE SCRIPT REACHES ONE STATE
abbrev pub IsOneState : ScriptParts → Type 0
IsOneState script =
    (P : List Step) (one two : RunTrunks) → IsRunOf script P one → IsRunOf script P two
    → Become (shape_of script) one two

pub one_state : RunsReachOneState → (script : ScriptParts) → IsScript script → IsOneState script
one_state law script declared P one two =
    law.same (shape_of script)
    (two-ends (length script.names.nodes) (shape_of script) (laid_out script declared))
    (trunks_of (new_trunks script.links)) P one two
