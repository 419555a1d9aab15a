-- A RUN COMES AGAIN by a text: the one that the text spells is this run.
use Rattle.std.specs.Prelude.{ℕ, ◌≡◌, ◌≤◌, ◌++◌, List, Ok, length}
use Rattle.fabric.specs.Run.{Layout}
use Rattle.journal.specs.declared.effect.Step.{Step}
use Rattle.order_lines.specs.Fronts.{OrderedParts, ordered_of}
use Rattle.order_lines.specs.Lines.{without_orders}
use Rattle.order_rules.specs.Orders.{Order}
use Rattle.order_rules.specs.declared.rule.Rule.TheVariants.{Rounds}
use Rattle.orders.specs.Laws.{IsFilledInOrder, IsPlayedAgain}
use Rattle.orders.specs.Runs.{IsInOrder}
use Rattle.script_lang.specs.Limits.{script_limit}
use Rattle.script_lang.specs.Parts.{ScriptParts}
use Rattle.script_lang.specs.Reading.{script_of}
use Rattle.turn_lines.specs.Reading.{ListsNone}
use Rattle.turn_lines.specs.Text.{order_text}
use Rattle.turn_lines.specs.Turns.{turn_makers}

-- the bytes spell a script, and list no turns
pub record SpellsAlone (bytes : List ℕ) (script : ScriptParts) : Type 0 where
  pub spelled : script_of (without_orders bytes) ≡ Ok script
  pub none : ListsNone bytes

-- a text with the lines of the turns of these steps behind it
abbrev pub with_turns_of : List ℕ → List Step → List ℕ
with_turns_of bytes P = bytes ++ order_text (turn_makers P)

-- a text that is no longer than that of a script may be
abbrev pub IsShort : List ℕ → Type 0
IsShort bytes = length bytes ≤ script_limit

-- the makers that come first, and rounds behind them: the order of `serial`
abbrev pub order_in : OrderedParts → Order
order_in ordered = record { left = ordered.front; rule = Rounds 0 }

-- A RUN COMES AGAIN BY A TEXT: the text spells a script and its order; a whole run of this script in
-- this order has the journal of the run, and so has every one; and no run in this order is stopped by
-- a full journal
pub record ComesAgainBy (text : List ℕ) (run : Layout) : Type 0 where
  pub ordered : OrderedParts
  pub spelled : ordered_of text ≡ Ok ordered
  pub played : IsPlayedAgain ordered.script (order_in ordered) run
  pub only :
      (other : Layout) → IsInOrder ordered.script (order_in ordered) other → other.log ≡ run.log
  pub unfilled :
      (other : Layout) → IsFilledInOrder ordered.script (order_in ordered) other → ⊥
