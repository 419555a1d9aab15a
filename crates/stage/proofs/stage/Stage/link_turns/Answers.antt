use Rattle.std.proofs.Common.{◌≡◌, ◌+◌, ◌<◌, ◌≤◌, ℕ, length, ap, refl, sym, ◌∙◌, subst, arith}
use Rattle.linx_base.specs.declared.identity.LinkNo.{LinkNo}
use Rattle.link_laws.specs.Ends.{IsLinkOf}
use Rattle.script_lang.specs.Parts.{ScriptParts}
use Rattle.fabric.specs.Run.{Layout}
use Rattle.stage.specs.Plays.{Play}
use Rattle.stage.specs.Turns.{AreTurns, IsPump, makers, shape_of}
use Rattle.stage.proofs.Rounds.WholeRuns.{HasFront, front-of_link, links-more, on_err-said}
use Rattle.stage.proofs.stage.Stage.link_turns.Goals as goal

pub turns-init : goal.turns-init
turns-init c =
    let script : ScriptParts = c.args.self.now.script in
    let count : ℕ = length script.actors in
    let none : count ≡ count + 0 = omega arith in
    record {
      turns = λ start turns.
          subst (λ (n : ℕ). AreTurns script n start c.args.self.now.run) none turns;
      script = refl;
      calm = c.requires.calm;
    }

pub link_turn-requires-clause-declared : goal.link_turn-requires-clause-declared
link_turn-requires-clause-declared c =
    let s = c.self.inside in
    let script : ScriptParts = c.args.self.now.script in
    let place : ℕ = c.turns.place in
    let l : LinkNo = record { 0 = place + 1 } in
    let count : length c.links.result.now ≡ length s.script.links =
    ap length c.links.ensures.links in
    let test = c.turns-test.true in
    let low : place + 1 ≤ length s.script.links = omega (arith, count, test) in
    let within : place + 1 ≤ length script.links =
    subst (λ (p : Play). place + 1 ≤ length p.script.links) c.self.view_is low in
    subst (λ (s : ScriptParts). IsLinkOf (shape_of s) l) (sym c.turns.invariant.script)
    (omega arith, within)

pub turns-preserved : goal.turns-preserved
turns-preserved c =
    let script : ScriptParts = c.args.self.now.script in
    let before : Layout = c.turns.self.run in
    let now : Layout = c.link_turn.new.self.run in
    let place : ℕ = c.turns.place in
    record {
      turns = λ start turns.
          links-more script place start before now (c.turns.invariant.turns start turns)
          c.in_ok-link_turn.field-0
          (subst (λ (s : ScriptParts).
          IsPump s (record { 0 = place + 1 }) before now c.in_ok-link_turn.field-0)
          c.turns.invariant.script c.in_ok-link_turn.ensures.ok);
      script = c.link_turn.ensures.script ∙ c.turns.invariant.script;
      calm = c.link_turn.ensures.calm;
    }

pub returns-in_err-link_turn-clause-front : goal.returns-in_err-link_turn-clause-front
returns-in_err-link_turn-clause-front c =
    let s = c.self.inside in
    let script : ScriptParts = c.args.self.now.script in
    let before : Layout = c.turns.self.run in
    let now : Layout = c.link_turn.new.self.run in
    let place : ℕ = c.turns.place in
    let count : length c.links.result.now ≡ length s.script.links =
    ap length c.links.ensures.links in
    let test = c.turns-test.true in
    let low : place + 1 ≤ length s.script.links = omega (arith, count, test) in
    let within : place + 1 ≤ length script.links =
    subst (λ (p : Play). place + 1 ≤ length p.script.links) c.self.view_is low in
    on_err-said c.from_residual.result
    ((start : Layout) → AreTurns script (length script.actors) start c.args.self.now.run
    → HasFront script start now)
    (λ start turns.
    front-of_link script place start before now within (c.turns.invariant.turns start turns)
    c.in_err-link_turn.ensures.err)

pub returns-clause-ok : goal.returns-clause-ok
returns-clause-ok c =
    let s = c.self.inside in
    let script : ScriptParts = c.args.self.now.script in
    let place : ℕ = c.turns.place in
    let count : length c.links.result.now ≡ length s.script.links =
    ap length c.links.ensures.links in
    let test = c.turns-test.false in
    let most = c.turns.auto.place-end in
    let low : place ≡ length s.script.links = omega (arith, count, test, most) in
    let all : place ≡ length script.links =
    subst (λ (p : Play). place ≡ length p.script.links) c.self.view_is low in
    let sum : length script.actors + place ≡ makers script =
    ap (λ (n : ℕ). length script.actors + n) all in
    λ start turns.
    subst (λ (n : ℕ). AreTurns script n start c.turns.self.run) sum
    (c.turns.invariant.turns start turns)
