use Rattle.std.proofs.Common.{false, ◌<◌, ◌≡◌, ◌+◌, ℕ, true, length, refl, sym, ◌∙◌, subst, arith}
use Rattle.script_lang.specs.Parts.{ScriptParts}
use Rattle.fabric.specs.Run.{Layout}
use Rattle.stage.specs.Stops.{IsCauseOf}
use Rattle.stage.specs.Turns.{AreTurns, IsRound, is_over}
use Rattle.stage.proofs.Rounds.WholeRuns.{HasFront, front-of_link, on_err-said}
use Rattle.stage.proofs.Rounds.WholeRuns.{settling-linked, settling-not_over}
use Rattle.stage.specs.Plays.{Play}
use Rattle.stage.proofs.stage.Stage.round.Goals as goal

pub returns-clause-ok : goal.returns-clause-ok
returns-clause-ok c =
    let script : ScriptParts = c.args.self.now.script in
    let start : Layout = c.args.self.now.run in
    let between : Layout = c.actor_turns.new.self.run in
    let now : Layout = c.link_turns.new.self.run in
    subst (λ (s : ScriptParts). AreTurns s (length s.actors) start between → IsRound s start now)
    c.actor_turns.ensures.script (c.in_ok-link_turns.ensures.ok start)
    c.in_ok-actor_turns.ensures.ok

pub returns-in_err-link_turns-clause-front : goal.returns-in_err-link_turns-clause-front
returns-in_err-link_turns-clause-front c =
    let script : ScriptParts = c.args.self.now.script in
    let start : Layout = c.args.self.now.run in
    let between : Layout = c.actor_turns.new.self.run in
    let now : Layout = c.link_turns.new.self.run in
    on_err-said c.from_residual-in_err-link_turns.result (HasFront script start now)
    (subst (λ (s : ScriptParts). AreTurns s (length s.actors) start between
    → HasFront s start now) c.actor_turns.ensures.script (c.in_err-link_turns.ensures.front start)
    c.in_ok-actor_turns.ensures.ok)

pub returns-then-is_settling-clause-cause : goal.returns-then-is_settling-clause-cause
returns-then-is_settling-clause-cause c =
    subst (λ (p : Play). IsCauseOf c.unsettled.result p.run.log.steps) c.self.view_is
    c.unsettled.ensures

pub returns-then-is_settling-clause-not_over : goal.returns-then-is_settling-clause-not_over
returns-then-is_settling-clause-not_over c =
    let s = c.self.inside in
    subst (λ (p : Play). is_over p.run ≡ false) c.self.view_is
    (settling-not_over s.script s.fabric c.self.invariant.shape
    (sym c.is_settling.ensures ∙ c.if-is_settling.true))

pub returns-then-is_settling-clause-front : goal.returns-then-is_settling-clause-front
returns-then-is_settling-clause-front c =
    let s = c.self.inside in
    let script : ScriptParts = c.args.self.now.script in
    let start : Layout = c.args.self.now.run in
    let now : Layout = c.actor_turns.new.self.run in
    let linked : 0 < length s.script.links =
    settling-linked s.script s.fabric c.self.invariant.shape
    (sym c.is_settling.ensures ∙ c.if-is_settling.true) in
    let low : 0 < length script.links =
    subst (λ (q : ScriptParts). 0 < length q.links) c.actor_turns.ensures.script
    (subst (λ (p : Play). 0 < length p.script.links) c.self.view_is linked) in
    let sum : length script.actors ≡ length script.actors + 0 = omega arith in
    front-of_link script 0 start now now (omega (arith, low))
    (subst (λ (n : ℕ). AreTurns script n start now) sum c.in_ok-actor_turns.ensures.ok) refl
