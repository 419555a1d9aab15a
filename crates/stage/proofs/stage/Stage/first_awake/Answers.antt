use Rattle.std.proofs.Common.{◌≡◌, ◌<◌, ◌≤◌, ◌+◌, ℕ, true, false, length, ap, sym, ◌∙◌, subst}
use Rattle.std.proofs.Common.{arith, ◌||◌}
use Rattle.journal.specs.History.{has_ended}
use Rattle.journal.specs.Rest.{is_idle}
use Rattle.stage.specs.Plays.{AllFollow, Play}
use Rattle.stage.specs.Turns.{shape_of}
use Rattle.stage.proofs.Actors.Idling.{asleep-passed, later-behind}
use Rattle.stage.proofs.Rounds.Seats.{staged-follows}
use Rattle.stage.proofs.Rounds.WholeRuns.{turns-more}
use Rattle.stage.proofs.stage.Stage.first_awake.Goals as goal

pub passing-preserved : goal.passing-preserved
passing-preserved c =
    let s = c.self.inside in
    let old = c.args.self.now in
    let k : ℕ = c.passing.next + 1 in
    let above : 0 < k = omega arith in
    let count : length c.actors.result.now ≡ length s.script.actors =
    ap length c.actors.ensures.actors in
    let test = c.passing-test.true in
    let low : k ≤ length s.script.actors = omega (arith, count, test) in
    let within : k ≤ length old.script.actors =
    subst (λ (p : Play). k ≤ length p.script.actors) c.self.view_is low in
    let follows : AllFollow old.script old.run.log.steps =
    subst (λ (p : Play). AllFollow p.script p.run.log.steps) c.self.view_is
    (staged-follows s.script s.fabric s.players.items c.self.invariant) in
    let shape : old.run.shape ≡ shape_of old.script =
    subst (λ (p : Play). p.run.shape ≡ shape_of p.script) c.self.view_is c.self.invariant.shape in
    let behind = c.passing.invariant.behind in
    record {
      passed = λ start turns.
          turns-more old.script start old.run old.run c.passing.next
          (c.passing.invariant.passed start turns)
          (asleep-passed old shape follows k above within behind
          (c.is_asleep.ensures c.if-not-is_asleep.false));
      behind = later-behind old.run.log.steps k behind;
    }
