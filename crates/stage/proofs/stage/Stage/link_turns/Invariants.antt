use Rattle.std.proofs.Common.{◌≡◌, ◌+◌, length, None}
use Rattle.fabric.specs.Run.{Layout}
use Rattle.stage.specs.Settlings.{settler_in}
use Rattle.stage.specs.Turns.{AreTurns}
use Rattle.stage.proofs.stage.Stage.link_turns.Given as goal

-- so many links took their turns, behind the actors, and nobody settles one
abbrev pub invariant-turns : goal.invariant-turns
invariant-turns l = record {
  turns : (start : Layout)
      → AreTurns l.initial.self.script (length l.initial.self.script.actors) start
      l.initial.self.run
      → AreTurns l.initial.self.script (length l.initial.self.script.actors + l.place) start
      l.self.run;
  script : l.self.script ≡ l.initial.self.script;
  calm : settler_in l.self.run ≡ None;
}
