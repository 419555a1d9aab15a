-- Two runs in one order go through states that are alike.
use Rattle.std.proofs.Common.{◌≡◌, ℕ, zero, suc, length, refl, sym, ◌∙◌, ap, subst}
use Rattle.journal.specs.Shapes.{Shape}
use Rattle.link_laws.specs.Ends.{HasTwoEnds}
use Rattle.script_lang.specs.Fits.{IsScript}
use Rattle.script_lang.specs.Parts.{ScriptParts}
use Rattle.fabric.proofs.Methods.Runs.{two-ends}
use Rattle.stage.specs.Turns.{IsTurnOf, first_layout, shape_of}
use Rattle.stage.proofs.Rounds.LayingOut.{laid_out}
use Rattle.run_orders.proofs.States.{AreAlike, alike-same}
use Rattle.run_orders.proofs.Turns.{turn-alike}
use Rattle.order_rules.specs.Orders.{Named, Order, named}
use Rattle.orders.specs.Makers.{ready}
use Rattle.orders.specs.Runs.{AreNextTurns, IsNextTurn, Standing, first_standing, next_in}
use Rattle.orders.proofs.Alike.{all-alike}

module _ (script : ScriptParts) (is : IsScript script) where
  abbrev shape : Shape
  shape = shape_of script

  pub ends : HasTwoEnds shape
  ends = two-ends (length script.names.nodes) shape (laid_out script is)

  -- two that stand alike, in one order
  pub record AreBoth (one two : Standing) : Type 0 where
    pub order : one.order ≡ two.order
    pub run : AreAlike shape one.run two.run

  -- the same maker is named
  pub named-same : (one two : Standing) → AreBoth one two → next_in script one ≡ next_in script two
  named-same one two both =
      ap (λ (o : Order). named o.left o.rule (ready script one.run)) both.order
      ∙ ap (named two.order.left two.order.rule) (all-alike script one.run two.run both.run)

  next-both : (one two new_one new_two : Standing) → AreBoth one two
      → IsNextTurn script one new_one → IsNextTurn script two new_two → AreBoth new_one new_two
  next-both one two new_one new_two both first second =
      let same : next_in script one ≡ next_in script two = named-same one two both in
      record {
        order = first.order ∙ ap (λ (n : Named). n.order) same ∙ sym second.order;
        run = turn-alike script ends one.run two.run both.run new_one.run new_two.run
            (next_in script one).maker first.ready.within first.turn
            (subst (λ (n : Named). IsTurnOf script n.maker two.run new_two.run) (sym same)
            second.turn);
      }

  pub many-both : (n : ℕ) (start one two : Standing) → AreBoth start start → AreNextTurns script n start one
      → AreNextTurns script n start two → AreBoth one two
  many-both zero start one two both made_one made_two =
      subst (λ (x : Standing). AreBoth x two) (sym made_one)
      (subst (AreBoth start) (sym made_two) both)
  many-both (suc n) start one two both made_one made_two =
      next-both made_one.0 made_two.0 one two
      (many-both n start made_one.0 made_two.0 both made_one.1.0 made_two.1.0)
      made_one.1.1 made_two.1.1

  abbrev pub start : Order → Standing
  start order = first_standing script order

  pub start-both : (order : Order) → AreBoth (start order) (start order)
  start-both order =
      record { order = refl; run = alike-same shape (first_layout script) refl }
