use Rattle.std.proofs.Common.{◌≡◌, drop}
use Rattle.order_rules.specs.Rules.{lowest, lowest_of}
use Rattle.order_rules.proofs.priorities.lowest.Given as goal

-- the lowest one of those before
abbrev pub invariant-makers : goal.invariant-makers
invariant-makers l =
    lowest l.ranks l.ready ≡ lowest_of l.ranks l.best (drop l.maker-index l.ready)
