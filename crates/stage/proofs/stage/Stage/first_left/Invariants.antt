use Rattle.fabric.specs.Run.{Layout}
use Rattle.stage.specs.Turns.{AreTurns}
use Rattle.stage.proofs.stage.Stage.first_left.Given as goal

-- the turns so far change nothing
abbrev pub invariant-passing : goal.invariant-passing
invariant-passing l =
    (start : Layout) → AreTurns l.self.script l.place start l.self.run
    → AreTurns l.self.script l.next start l.self.run
