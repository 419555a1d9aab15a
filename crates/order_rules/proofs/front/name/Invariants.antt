use Rattle.std.proofs.Common.{◌≡◌, ◌≤◌, ◌-◌, drop, length}
use Rattle.order_rules.specs.Orders.{named}
use Rattle.order_rules.proofs.front.name.Given as goal

-- those before are passed over
abbrev pub invariant-front : goal.invariant-front
invariant-front l = record {
  passed : named (drop l.initial.place l.front) l.initial.rule l.ready
      ≡ named (drop l.place l.front) l.initial.rule l.ready;
  within : l.place ≤ length l.front;
}

abbrev pub decreases-front : goal.decreases-front
decreases-front l = length l.front - l.place
