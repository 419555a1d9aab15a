use Rattle.std.proofs.Common.{◌≡◌, ◌-◌, length}
use Rattle.stage.proofs.Rounds.WholeRuns.{HaveRounds}
use Rattle.stage.proofs.stage.Stage.finish.Given as goal

-- so many rounds were made, and all wasn't over before any of them
abbrev pub invariant-rounds : goal.invariant-rounds
invariant-rounds l = record {
  rounds : HaveRounds l.initial.self.script l.initial.self.run l.self.run;
  script : l.self.script ≡ l.initial.self.script;
}

abbrev pub decreases-rounds : goal.decreases-rounds
decreases-rounds l = 200000 - length l.self.run.log.steps
