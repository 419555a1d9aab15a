-- Where actors follow their commands, they did so before.
use Rattle.std.proofs.Common.{List, [], ◌∷◌, ◌++◌, subst, inl, inr}
use Rattle.journal.specs.declared.effect.Step.{Step}
use Rattle.script_lang.specs.Parts.{ScriptParts}
use Rattle.fabric.specs.Run.{Layout}
use Rattle.stage.specs.Plays.{AllFollow}
use Rattle.run_orders.proofs.States.{Grows}
use Rattle.run_orders.proofs.Turns.{turn-grows}
use Rattle.orders.specs.Runs.{IsNextTurn, Standing, next_in}

module _ (script : ScriptParts) where
  earlier : (more P : List Step) → AllFollow script (more ++ P) → AllFollow script P
  earlier [] P follows = follows
  earlier (s ∷ more) P follows =
      earlier more P (λ k above within. (follows k above within).0)

  pub grows-follows : (old new : Layout) → Grows old new → AllFollow script new.log.steps
      → AllFollow script old.log.steps
  grows-follows old new (inl same) follows =
      subst (λ (f : Layout). AllFollow script f.log.steps) same follows
  grows-follows old new (inr longer) follows =
      earlier (longer.step ∷ longer.more) old.log.steps (subst (AllFollow script) longer.steps follows)

  pub before-turn : (old new : Standing) → AllFollow script new.run.log.steps
      → IsNextTurn script old new → AllFollow script old.run.log.steps
  before-turn old new follows turn =
      grows-follows old.run new.run
      (turn-grows script old.run new.run (next_in script old).maker turn.turn) follows
