use Rattle.std.proofs.Common.{◌≡◌}
use Rattle.order_rules.specs.Dice.{words}
use Rattle.order_rules.proofs.dice.words.Given as goal

-- so many words were thrown
abbrev pub invariant-places : goal.invariant-places
invariant-places l = (l.table, l.dice) ≡ words l.place l.initial.dice
