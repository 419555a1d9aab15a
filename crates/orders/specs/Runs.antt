-- A RUN IN AN ORDER: each turn is that of the maker whom the order names.
use Rattle.std.specs.Prelude.{ℕ, zero, suc, ◌≡◌, ◌⊎◌, true, false, List}
use Rattle.script_lang.specs.Parts.{ScriptParts}
use Rattle.fabric.specs.Run.{Layout}
use Rattle.stage.specs.Turns.{IsStoppedOf, IsTurnOf, first_layout, is_over}
use Rattle.order_rules.specs.Orders.{Named, Order, named}
use Rattle.order_rules.specs.declared.rule.Rule.{Rule}
use Rattle.orders.specs.Makers.{IsReadyMaker, ready}

-- where a run in an order stands
pub record Standing : Type 0 where
  pub order : Order
  pub run : Layout

-- where a run stands in an order: the makers that are left to come first, the rule behind them, and
-- the run
abbrev pub standing : List ℕ → Rule → Layout → Standing
standing left rule run = record { order = record { left = left; rule = rule }; run = run }

-- who comes next where a run stands in an order, and where the order stands then
abbrev pub next_in : ScriptParts → Standing → Named
next_in script s = named s.order.left s.order.rule (ready script s.run)

-- THE NEXT TURN: not all was over, and the maker whom the order names, which is ready, took its turn
pub record IsNextTurn (script : ScriptParts) (old new : Standing) : Type 0 where
  pub running : is_over old.run ≡ false
  pub ready : IsReadyMaker script old.run (next_in script old).maker
  pub turn : IsTurnOf script (next_in script old).maker old.run new.run
  pub order : new.order ≡ (next_in script old).order

-- so many turns, each of the maker whom the order names next
abbrev pub AreNextTurns : ScriptParts → ℕ → Standing → Standing → Type 0
AreNextTurns script zero start now = now ≡ start
AreNextTurns script (suc n) start now =
    (before : Standing) × (AreNextTurns script n start before × IsNextTurn script before now)

-- where a run in an order stands before its first turn
abbrev pub first_standing : ScriptParts → Order → Standing
first_standing script order = record { order = order; run = first_layout script }

-- A WHOLE RUN IN AN ORDER: so many turns, and then all is over
pub record IsInOrder (script : ScriptParts) (order : Order) (run : Layout) : Type 0 where
  pub turns : ℕ
  pub last : Order
  pub made :
      AreNextTurns script turns (first_standing script order) (record { order = last; run = run })
  pub over : is_over run ≡ true

-- THE NEXT TURN STOPPED: not all was over, and the maker whom the order names, which is ready, took
-- no turn, or of its turn a settle is half done
pub record IsStoppedAt (script : ScriptParts) (old : Standing) (run : Layout) : Type 0 where
  pub running : is_over old.run ≡ false
  pub ready : IsReadyMaker script old.run (next_in script old).maker
  pub stopped : (run ≡ old.run) ⊎ IsStoppedOf script (next_in script old).maker old.run run

-- A RUN IN AN ORDER THAT STOPPED: so many turns, and the next one stopped
pub record IsStoppedInOrder (script : ScriptParts) (order : Order) (run : Layout) : Type 0 where
  pub turns : ℕ
  pub before : Standing
  pub made : AreNextTurns script turns (first_standing script order) before
  pub stopped : IsStoppedAt script before run
