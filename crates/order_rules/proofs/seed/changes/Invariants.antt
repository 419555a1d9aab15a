use Rattle.std.proofs.Common.{◌≡◌}
use Rattle.order_rules.specs.Seeds.{changes}
use Rattle.order_rules.proofs.seed.changes.Given as goal

-- so many turns were thrown
abbrev pub invariant-places : goal.invariant-places
invariant-places l = (l.table, l.dice) ≡ changes l.span l.place l.initial.dice
