-- That a run of a script leaves no choice but whose step is next.
use Rattle.std.specs.Prelude.{◌≡◌, true, false, List, map}
use Rattle.journal.specs.Logs.{is_full}
use Rattle.journal.specs.declared.by.By.{By}
use Rattle.journal.specs.declared.effect.Step.{Step}
use Rattle.script_lang.specs.Parts.{ScriptParts}
use Rattle.fabric.specs.Run.{Layout}
use Rattle.stage.specs.Plays.{IsSoFar}
use Rattle.stage.specs.Turns.{IsStoppedRun, IsWhole, first_layout, is_over}

-- who made each of some steps
abbrev pub makers_of : List Step → List By
makers_of P = map (λ (s : Step). s.by) P

-- a whole run in the fixed order
pub record IsEnded (script : ScriptParts) (run : Layout) : Type 0 where
  pub so_far : IsSoFar script run
  pub whole : IsWhole script run

-- a run in the fixed order that stopped, with a full journal, before all was over
pub record IsFilled (script : ScriptParts) (run : Layout) : Type 0 where
  pub so_far : IsSoFar script run
  pub stopped : IsStoppedRun script (first_layout script) run
  pub full : is_full run.log.steps ≡ true
  pub due : is_over run ≡ false

-- THE ORDER OF THE STEPS' MAKERS DECIDES A RUN of a script
pub record OrdersDecide : Type 0 where
  -- two runs so far, with the same makers in the same order, have one journal
  pub runs :
      (script : ScriptParts) (one two : Layout) → IsSoFar script one → IsSoFar script two
      → makers_of one.log.steps ≡ makers_of two.log.steps → one.log ≡ two.log
  -- so have two whole runs in the fixed order
  pub ended :
      (script : ScriptParts) (one two : Layout) → IsEnded script one → IsEnded script two
      → one.log ≡ two.log
  -- and two that a full journal stopped
  pub filled :
      (script : ScriptParts) (one two : Layout) → IsFilled script one → IsFilled script two
      → one.log ≡ two.log
  -- and where one run comes to its end, none is stopped by a full journal
  pub apart :
      (script : ScriptParts) (one two : Layout) → IsEnded script one → IsFilled script two → ⊥
