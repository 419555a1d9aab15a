use Rattle.std.proofs.Common.{◌∙◌, subst, arith, drop}
use Rattle.script_lang.specs.Parts.{ScriptParts}
use Rattle.orders.specs.Runs.{IsNextTurn, first_standing, standing}
use Rattle.orders.proofs.Turns.{next-more}
use Rattle.orders.proofs.play.play_in_order.Goals as goal

pub turns-preserved : goal.turns-preserved
turns-preserved c =
    let script = c.args.stage.now.script in
    let before = standing (drop c.turns.place c.args.front.now) c.turns.rule c.turns.stage.run in
    let now = standing (drop c.next_turn.new.place c.args.front.now) c.next_turn.new.rule
    c.next_turn.new.stage.run in
    record {
      turns = next-more script
          (first_standing script (record { left = c.args.front.now; rule = c.args.rule.now }))
          before now c.turns.invariant.turns
          (subst (λ (s : ScriptParts). IsNextTurn s before now) c.turns.invariant.script
          c.in_ok-next_turn.ensures.ok);
      within = c.next_turn.ensures.within;
      script = c.next_turn.ensures.script ∙ c.turns.invariant.script;
    }

pub turns-smaller : goal.turns-smaller
turns-smaller c =
    let few = c.is_over.ensures.few in
    let longer = c.in_ok-next_turn.ensures.longer in
    omega (arith, few, longer)
