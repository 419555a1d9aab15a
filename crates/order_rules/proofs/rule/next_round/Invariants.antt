use Rattle.std.proofs.Common.{◌≡◌, drop}
use Rattle.order_rules.specs.Rules.{next_round, behind, first_of}
use Rattle.order_rules.proofs.rule.next_round.Given as goal

-- none of those before is behind the last one
abbrev pub invariant-behind : goal.invariant-behind
invariant-behind l =
    next_round l.last l.ready ≡ behind l.last (first_of l.ready) (drop l.maker-index l.ready)
