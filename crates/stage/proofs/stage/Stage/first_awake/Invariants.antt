use Rattle.std.proofs.Common.{◌+◌}
use Rattle.fabric.specs.Run.{Layout}
use Rattle.stage.specs.Turns.{AreTurns, IsBehind}
use Rattle.stage.proofs.stage.Stage.first_awake.Given as goal

-- the turns so far change nothing, and who comes next is behind one that hasn't ended
abbrev pub invariant-passing : goal.invariant-passing
invariant-passing l = record {
  passed : (start : Layout) → AreTurns l.self.script l.place start l.self.run
      → AreTurns l.self.script l.next start l.self.run;
  behind : IsBehind l.self.run.log.steps (l.next + 1);
}
