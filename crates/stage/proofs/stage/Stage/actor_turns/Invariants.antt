use Rattle.std.proofs.Common.{◌≡◌, ◌≤◌, ◌-◌, length}
use Rattle.stage.specs.Turns.{AreTurns}
use Rattle.stage.proofs.stage.Stage.actor_turns.Given as goal

-- so many actors took their turns
abbrev pub invariant-turns : goal.invariant-turns
invariant-turns l = record {
  turns : AreTurns l.initial.self.script l.place l.initial.self.run l.self.run;
  within : l.place ≤ length l.initial.self.script.actors;
  script : l.self.script ≡ l.initial.self.script;
}

-- the actors whose turns are left
abbrev pub decreases-turns : goal.decreases-turns
decreases-turns l = l.actors - l.place
