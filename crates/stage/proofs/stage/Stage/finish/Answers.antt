use Rattle.std.proofs.Common.{sym, ◌∙◌, subst}
use Rattle.script_lang.specs.Parts.{ScriptParts}
use Rattle.stage.specs.Turns.{IsRound, IsStoppedRun}
use Rattle.stage.proofs.Rounds.WholeRuns.{HasFront, on_err-said, rounds-more, run-stopped}
use Rattle.stage.proofs.stage.Stage.finish.Goals as goal

pub rounds-preserved : goal.rounds-preserved
rounds-preserved c = record {
  rounds = rounds-more c.args.self.now.script c.args.self.now.run c.rounds.self.run
      c.round.new.self.run c.rounds.invariant.rounds
      (sym c.is_over.ensures.over ∙ c.rounds-test.true)
      (subst (λ (s : ScriptParts). IsRound s c.rounds.self.run c.round.new.self.run)
      c.rounds.invariant.script c.in_ok-round.ensures.ok);
  script = c.round.ensures.script ∙ c.rounds.invariant.script;
}

pub returns-in_err-round-clause-front : goal.returns-in_err-round-clause-front
returns-in_err-round-clause-front c =
    let script = c.args.self.now.script in
    let before = c.rounds.self.run in
    let now = c.round.new.self.run in
    on_err-said c.from_residual.result (IsStoppedRun script c.args.self.now.run now)
    (run-stopped script c.args.self.now.run before now c.rounds.invariant.rounds
    (sym c.is_over.ensures.over ∙ c.rounds-test.true)
    (subst (λ (s : ScriptParts). HasFront s before now) c.rounds.invariant.script
    c.in_err-round.ensures.front))
