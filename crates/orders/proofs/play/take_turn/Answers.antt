use Rattle.std.proofs.Common.{ℕ, ◌-◌, ◌<◌, ◌≤◌, Bool, length, sym, subst, arith, le-leb}
use Rattle.std.proofs.lemmas.Bool.{lt-leb}
use Rattle.stage.specs.Turns.{IsPump, IsTurnBy}
use Rattle.orders.proofs.play.take_turn.Goals as goal

pub returns-in_ok-turn-clause-ok : goal.returns-in_ok-turn-clause-ok
returns-in_ok-turn-clause-ok c =
    let old = c.args.stage.now in
    let count = c.actor_count-actors.ensures in
    let test = c.if-maker-actors.true in
    let within : c.args.maker ≤ length old.script.actors = omega (arith, count, test) in
    subst (λ (b : Bool). IsTurnBy b old.script c.args.maker old.run c.turn.new.self.run)
    (sym (le-leb c.args.maker (length old.script.actors) within))
    (c.in_ok-turn.field-0, c.in_ok-turn.ensures.ok)

pub returns-in_ok-pump-clause-ok : goal.returns-in_ok-pump-clause-ok
returns-in_ok-pump-clause-ok c =
    let old = c.args.stage.now in
    let count = c.actor_count-actors.ensures in
    let test = c.if-maker-actors.false in
    let above : length old.script.actors < c.args.maker = omega (arith, count, test) in
    subst (λ (b : Bool). IsTurnBy b old.script c.args.maker old.run c.pump.new.self.run)
    (sym (lt-leb c.args.maker (length old.script.actors) above)) (
      c.in_ok-pump.field-0,
      subst (λ (n : ℕ). IsPump old.script (record { 0 = c.args.maker - n }) old.run
          c.pump.new.self.run c.in_ok-pump.field-0) count c.in_ok-pump.ensures.ok,
    )
