-- That an order decides a run, that the makers of its turns make a run again, and which order is the
-- fixed one.
use Rattle.std.specs.Prelude.{◌≡◌, true, false, []}
use Rattle.script_lang.specs.Fits.{IsScript}
use Rattle.script_lang.specs.Parts.{ScriptParts}
use Rattle.journal.specs.Logs.{is_full}
use Rattle.fabric.specs.Run.{Layout}
use Rattle.stage.specs.Plays.{IsSoFar}
use Rattle.stage.specs.Turns.{IsStoppedRun, IsWhole, first_layout, is_over}
use Rattle.order_rules.specs.Orders.{Order}
use Rattle.order_rules.specs.declared.rule.Rule.{Rule}
use Rattle.order_rules.specs.declared.rule.Rule.TheVariants.{Rounds}
use Rattle.orders.specs.Runs.{IsInOrder, IsStoppedInOrder}
use Rattle.orders.specs.Turns.{turns_of}

-- a run in an order that stopped, with a full journal, before all was over
pub record IsFilledInOrder (script : ScriptParts) (order : Order) (run : Layout) : Type 0 where
  pub so_far : IsSoFar script run
  pub stopped : IsStoppedInOrder script order run
  pub full : is_full run.log.steps ≡ true
  pub due : is_over run ≡ false

-- A RUN COMES AGAIN in an order: a whole run in this order has its journal
pub record IsPlayedAgain (script : ScriptParts) (order : Order) (run : Layout) : Type 0 where
  pub again : Layout
  pub so_far : IsSoFar script again
  pub log : again.log ≡ run.log
  pub in_order : IsInOrder script order again

-- rounds, and no maker before them
abbrev pub rounds : Order
rounds = record { left = []; rule = Rounds 0 }

-- AN ORDER DECIDES A RUN; the makers of its turns, as they are listed, are one; and so are rounds,
-- which are the fixed order
pub record OrderDecides : Type 0 where
  -- two whole runs of a script in one order have one journal
  pub one :
      (script : ScriptParts) → IsScript script → (order : Order) (first second : Layout)
      → IsInOrder script order first → IsInOrder script order second → first.log ≡ second.log
  -- and so have two runs in one order that a full journal stopped
  pub filled :
      (script : ScriptParts) (order : Order) (first second : Layout)
      → IsFilledInOrder script order first → IsFilledInOrder script order second
      → first.log ≡ second.log
  -- and where one run in an order comes to its end, none is stopped by a full journal
  pub apart :
      (script : ScriptParts) (order : Order) (first second : Layout) → IsSoFar script first
      → IsInOrder script order first → IsFilledInOrder script order second → ⊥
  -- each whole run in an order is also the one in which the makers of its turns come first, as its
  -- journal tells them, whichever rule is behind them
  pub again :
      (script : ScriptParts) (order : Order) (run : Layout) → IsSoFar script run
      → IsInOrder script order run → (rule : Rule)
      → IsInOrder script (record { left = turns_of script run.log.steps; rule = rule }) run
  -- and each whole run of a script, by threads or not, comes again in that order
  pub replayed :
      (script : ScriptParts) (run : Layout) → IsSoFar script run → is_over run ≡ true
      → (rule : Rule)
      → IsPlayedAgain script (record { left = turns_of script run.log.steps; rule = rule }) run
  -- a whole run in rounds is the whole run in the fixed order
  pub fixed :
      (script : ScriptParts) (run : Layout) → IsSoFar script run → IsInOrder script rounds run
      → IsWhole script run
  -- and one that stopped is one that stopped in the fixed order
  pub stopped :
      (script : ScriptParts) (run : Layout) → IsSoFar script run
      → IsStoppedInOrder script rounds run → IsStoppedRun script (first_layout script) run
