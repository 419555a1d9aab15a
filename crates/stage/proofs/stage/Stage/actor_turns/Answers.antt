use Rattle.std.proofs.Common.{◌≡◌, ◌+◌, ◌<◌, ◌≤◌, ℕ, suc, length, ap, refl, sym, ◌∙◌, subst, arith}
use Rattle.script_lang.specs.Parts.{ScriptParts}
use Rattle.fabric.specs.Run.{Layout}
use Rattle.stage.specs.Plays.{Play}
use Rattle.stage.specs.Turns.{AreTurns, IsTurn, IsTurnStopped}
use Rattle.stage.proofs.Rounds.WholeRuns.{HasFront, front-of_actor, on_err-said, turn-of_actor}
use Rattle.stage.proofs.Rounds.WholeRuns.{turns-more}
use Rattle.stage.proofs.stage.Stage.actor_turns.Goals as goal

pub turns-init : goal.turns-init
turns-init c = record {
  turns = c.next_due-place.ensures.passed c.args.self.now.run refl;
  within = c.next_due-place.ensures.within;
  script = refl;
}

pub turns-preserved : goal.turns-preserved
turns-preserved c =
    let s = c.self.inside in
    let script : ScriptParts = c.args.self.now.script in
    let start : Layout = c.args.self.now.run in
    let before : Layout = c.turns.self.run in
    let now : Layout = c.turn.new.self.run in
    let place : ℕ = c.turns.place in
    let next : ℕ = c.next_due-place-in-turns.result in
    let count : length c.actors.result.now ≡ length s.script.actors =
    ap length c.actors.ensures.actors in
    let test = c.turns-test.true in
    let low : place + 1 ≤ length s.script.actors = omega (arith, count, test) in
    let within : place + 1 ≤ length script.actors =
    subst (λ (p : Play). place + 1 ≤ length p.script.actors) c.self.view_is low in
    let same : c.turn.new.self.script ≡ script =
    c.turn.ensures.script ∙ c.turns.invariant.script in
    let taken : AreTurns script (place + 1) start now =
    turns-more script start before now place c.turns.invariant.turns
    (turn-of_actor script (place + 1) before now within c.in_ok-turn.field-0
    (subst (λ (s : ScriptParts). IsTurn s (place + 1) before now c.in_ok-turn.field-0)
    c.turns.invariant.script c.in_ok-turn.ensures.ok)) in
    record {
      turns = subst (λ (s : ScriptParts). AreTurns s (place + 1) start now
          → AreTurns s next start now) same (c.next_due-place-in-turns.ensures.passed start) taken;
      within = subst (λ (s : ScriptParts). next ≤ length s.actors) same
          c.next_due-place-in-turns.ensures.within;
      script = same;
    }

pub returns-in_err-turn-clause-front : goal.returns-in_err-turn-clause-front
returns-in_err-turn-clause-front c =
    let s = c.self.inside in
    let script : ScriptParts = c.args.self.now.script in
    let start : Layout = c.args.self.now.run in
    let before : Layout = c.turns.self.run in
    let now : Layout = c.turn.new.self.run in
    let place : ℕ = c.turns.place in
    let count : length c.actors.result.now ≡ length s.script.actors =
    ap length c.actors.ensures.actors in
    let test = c.turns-test.true in
    let low : place + 1 ≤ length s.script.actors = omega (arith, count, test) in
    let within : place + 1 ≤ length script.actors =
    subst (λ (p : Play). place + 1 ≤ length p.script.actors) c.self.view_is low in
    on_err-said c.from_residual.result (HasFront script start now)
    (front-of_actor script start before now place within c.turns.invariant.turns
    (subst (λ (s : ScriptParts). IsTurnStopped s (place + 1) before now)
    c.turns.invariant.script c.in_err-turn.ensures.err))
