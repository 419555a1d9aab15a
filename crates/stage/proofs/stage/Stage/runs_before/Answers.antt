use Rattle.std.proofs.Common.{◌≡◌, ◌<◌, ◌≤◌, ◌+◌, ℕ, Bool, false, length, sym, ◌∙◌, subst, arith}
use Rattle.journal.specs.History.{has_ended}
use Rattle.stage.specs.Plays.{Play}
use Rattle.stage.proofs.Actors.Idling.{not_true}
use Rattle.stage.proofs.stage.Stage.runs_before.Goals as goal

pub returns : goal.returns
returns c = λ is.
    let place : ℕ = c.args.place in
    let some = c.if-place-eq0.false in record {
      first = place;
      above = omega (arith, some);
      less = omega arith;
      running = subst (λ (p : Play). has_ended p.run.log.steps place ≡ false) c.self.view_is
          (sym c.has_ended.ensures ∙ not_true c.has_ended.result is);
    }
