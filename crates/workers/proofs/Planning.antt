-- A step that is as planned in one state of its history is as planned in each: a journal reaches
-- one state.
use Rattle.std.proofs.Common.{List}
use Rattle.journal.specs.declared.effect.Step.{Step}
use Rattle.script_lang.specs.Parts.{ScriptParts}
use Rattle.trunk_moves.specs.Steps.{IsTrunkStep}
use Rattle.trunk_moves.specs.Trunks.{RunTrunks}
use Rattle.stage.specs.Plays.{IsPlannedStep}
use Rattle.stage.specs.Turns.{shape_of}
use Rattle.stage.proofs.Plans.OneState.{IsOneState, IsRunOf, reached_run}
use Rattle.stage.proofs.Plans.PlannedAlike.{planned-same}
use Rattle.workers.specs.Working.{IsPlannedThen}

-- SO IN EACH STATE that the steps before it reach
pub planned-then : (script : ScriptParts) → IsOneState script → (P : List Step) (trunks : RunTrunks)
    → IsRunOf script P trunks → (s : Step) (after : RunTrunks)
    → IsTrunkStep (shape_of script) P trunks s after → IsPlannedStep script P trunks s
    → IsPlannedThen script P s
planned-then script one-state P trunks run s after step planned other reached =
    planned-same script P trunks other
    (one-state P trunks other run (reached_run script P other reached)) s after step planned
