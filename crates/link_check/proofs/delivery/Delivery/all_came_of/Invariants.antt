use Rattle.std.proofs.Common.{◌≡◌, length}
use Rattle.std.specs.List.{list_any}
use Rattle.link_check.specs.Deliveries.{is_due, is_to_come}
use Rattle.link_check.proofs.delivery.Delivery.all_came_of.Given as goal

-- of those that are left one has still to come exactly where one of all has
abbrev pub invariant-loop-flow : goal.invariant-loop-flow
invariant-loop-flow l =
    list_any (is_to_come l.self l.session) l.left ≡ is_due l.self l.session l.fn.pair l.fn.inc

abbrev pub decreases-loop-flow : goal.decreases-loop-flow
decreases-loop-flow l = length l.left
