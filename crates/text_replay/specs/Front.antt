-- The order that a printed run tells: the makers of its turns come first, and rounds behind them.
use Rattle.std.specs.Prelude.{ℕ, Bool, ◌&&◌, nat_le, nat_lt, List, [], ◌∷◌, ◌++◌, length}
use Rattle.std.specs.Prelude.{if◌then◌else◌}
use Rattle.journal.specs.declared.by.By.{By}
use Rattle.journal.specs.declared.by.By.TheVariants.{Actor, Pump}
use Rattle.journal.specs.declared.effect.Step.{Step}
use Rattle.order_rules.specs.Orders.{Order}
use Rattle.order_rules.specs.declared.rule.Rule.TheVariants.{Rounds}
use Rattle.orders.specs.Turns.{begins_turn, number_of}
use Rattle.script_lang.specs.Parts.{ScriptParts}

-- a maker is an actor or a link of a script
abbrev pub is_maker : ScriptParts → By → Bool
is_maker script (Actor k) = nat_lt 0 k && nat_le k (length script.actors)
is_maker script (Pump l) = nat_lt 0 l.0 && nat_le l.0 (length script.links)

-- a step begins a turn of a maker that the script has
abbrev pub begins_one : ScriptParts → Step → Bool
begins_one script s = begins_turn s.by s.head && is_maker script s.by

-- turns with that of a step, by the number of its maker, where the script has that
abbrev pub told_with : ScriptParts → List ℕ → Step → List ℕ
told_with script front s = if begins_one script s then front ++ number_of script s.by ∷ [] else front

-- the turns of these steps, the oldest first
abbrev pub told_front : ScriptParts → List Step → List ℕ
told_front script [] = []
told_front script (s ∷ P) = told_with script (told_front script P) s

-- THE ORDER THAT STEPS TELL: the makers of their turns, and rounds behind them
abbrev pub told_order : ScriptParts → List Step → Order
told_order script P = record { left = told_front script P; rule = Rounds 0 }
