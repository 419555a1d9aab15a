use Rattle.std.proofs.Common.{◌≡◌, ◌≤◌, ◌+◌, ℕ, true, length, ap, sym, ◌∙◌, subst, arith}
use Rattle.journal.specs.History.{has_ended}
use Rattle.stage.specs.Plays.{Play}
use Rattle.stage.proofs.Actors.Idling.{ended-passed}
use Rattle.stage.proofs.Rounds.WholeRuns.{turns-more}
use Rattle.stage.proofs.stage.Stage.first_left.Goals as goal

pub passing-preserved : goal.passing-preserved
passing-preserved c =
    let s = c.self.inside in
    let old = c.args.self.now in
    let k : ℕ = c.passing.next + 1 in
    let count : length c.actors.result.now ≡ length s.script.actors =
    ap length c.actors.ensures.actors in
    let test = c.passing-test.true in
    let low : k ≤ length s.script.actors = omega (arith, count, test) in
    let within : k ≤ length old.script.actors =
    subst (λ (p : Play). k ≤ length p.script.actors) c.self.view_is low in
    let ended : has_ended old.run.log.steps k ≡ true =
    subst (λ (p : Play). has_ended p.run.log.steps k ≡ true) c.self.view_is
    (sym c.has_ended.ensures ∙ c.if-not-has_ended.false) in
    λ start turns.
    turns-more old.script start old.run old.run c.passing.next (c.passing.invariant start turns)
    (ended-passed old.script old.run k within ended)
