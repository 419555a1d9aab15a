-- WHOM AN ORDER NAMES of the makers that are ready.
use Rattle.std.specs.Prelude.{ℕ, List, [], ◌∷◌, if◌then◌else◌}
use Rattle.order_rules.specs.Rules.{by_rule, is_among}
use Rattle.order_rules.specs.declared.rule.Rule.{Rule}

-- WHERE AN ORDER STANDS: the makers whose turns are to come first, and the rule behind them
pub record Order : Type 0 where
  pub left : List ℕ
  pub rule : Rule

-- a maker, and where the order stands behind its turn
pub record Named : Type 0 where
  pub maker : ℕ
  pub order : Order

-- a maker that a rule named
abbrev pub named_by : ℕ × Rule → Named
named_by it = record { maker = it.0; order = record { left = []; rule = it.1 } }

-- WHOM AN ORDER NAMES of those that are ready: the first of the makers that are to come, where
-- those that aren't ready are passed over; and behind them whom the rule names
abbrev pub named : List ℕ → Rule → List ℕ → Named
named [] rule some = named_by (by_rule rule some)
named (m ∷ left) rule some =
    if is_among m some
    then record { maker = m; order = record { left = left; rule = rule } }
    else named left rule some
