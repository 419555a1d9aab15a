-- The run that the machine reached and the run as planned are one, and after each of its steps it
-- keeps what is promised of runs with links.
use Rattle.std.proofs.Common.{ℕ, ◌≤◌, ◌<◌, List, [], ◌∷◌, length, sym, ◌∙◌, arith, true≢false}
use Rattle.journal.specs.Logs.{step_limit}
use Rattle.journal.specs.Shapes.{Shape}
use Rattle.journal.specs.declared.effect.Step.{Step}
use Rattle.link_laws.specs.Runs.{KeepsPromises}
use Rattle.link_laws.proofs.Runs.{promised_now}
use Rattle.run_states.proofs.States.{runs_reach_one_state}
use Rattle.script_lang.specs.Fits.{IsScript}
use Rattle.script_lang.specs.Parts.{ScriptParts}
use Rattle.trunk_moves.specs.Trunks.{Become, RunTrunks, links_of}
use Rattle.trunk_moves.proofs.Runs.{trunk_runs_keep_all}
use Rattle.fabric.specs.Run.{IsReached}
use Rattle.fabric.proofs.Methods.Runs.{reached-run, whole-of}
use Rattle.stage.specs.Plays.{IsPlanned, IsScriptRun}
use Rattle.stage.specs.Turns.{shape_of}
use Rattle.stage.proofs.Actors.Going.{not_full}
use Rattle.stage.proofs.Rounds.LayingOut.{laid_out}
use Rattle.stage.proofs.Plans.OneState.{one_state, planned_run, reached_run}
use Rattle.stage.proofs.Plans.PlannedAlike.{planned-same}

module _ (script : ScriptParts) (declared : IsScript script) where
  abbrev nodes : ℕ
  nodes = length script.names.nodes

  abbrev shape : Shape
  shape = shape_of script

  -- what is promised of the trunks that a run reached
  promised-there : (P : List Step) (trunks : RunTrunks) → length P ≤ step_limit
      → IsReached nodes shape P trunks → KeepsPromises shape P (links_of trunks)
  promised-there P trunks fits reached =
      promised_now shape P (links_of trunks)
      (trunk_runs_keep_all shape P trunks
      (whole-of nodes shape (laid_out script declared) P trunks fits
      (reached-run nodes shape P trunks reached))).promises

  pub one-run : (P : List Step) (there plan : RunTrunks) → IsReached nodes shape P there
      → IsPlanned script P plan → IsScriptRun script P there
  one-run [] there plan reached planned =
      (reached, promised-there [] there (omega arith) reached)
  one-run (s ∷ P) there plan reached planned =
      let same : Become shape planned.0 reached.0 =
      one_state runs_reach_one_state script declared P planned.0 reached.0
      (planned_run script P planned.0 planned.1.0) (reached_run script P reached.0 reached.1.0) in
      let few : length P < 200000 =
      not_full P (λ full. true≢false (sym full ∙ reached.1.1.1.room)) in (
        reached.0,
        (
          one-run P reached.0 planned.0 reached.1.0 planned.1.0,
          record {
            makes = reached.1.1.0;
            made = reached.1.1.1;
            planned = planned-same script P planned.0 reached.0 same s plan planned.1.1.0
                planned.1.1.1;
            promises = promised-there (s ∷ P) there (omega arith) reached;
          },
        ),
      )
