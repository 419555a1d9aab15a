use Rattle.std.proofs.Common.{◌≡◌, length}
use Rattle.std.specs.List.{list_any}
use Rattle.link_check.specs.Stillness.{any_under_way, is_under_way}
use Rattle.link_check.proofs.delivery.Delivery.any_under_way.Given as goal

-- of those that are left one is under way exactly where one of all is
abbrev pub invariant-loop-flow : goal.invariant-loop-flow
invariant-loop-flow l =
    list_any (is_under_way l.self l.across l.session) l.left
    ≡ any_under_way l.self l.across l.session l.fn.other

abbrev pub decreases-loop-flow : goal.decreases-loop-flow
decreases-loop-flow l = length l.left
