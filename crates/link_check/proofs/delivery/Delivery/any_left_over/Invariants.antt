use Rattle.std.proofs.Common.{◌≡◌, length}
use Rattle.std.specs.List.{list_any}
use Rattle.link_check.specs.Stillness.{any_left_over, is_left_over}
use Rattle.link_check.proofs.delivery.Delivery.any_left_over.Given as goal

-- of those that are left one is left over exactly where one of all is
abbrev pub invariant-loop-mark : goal.invariant-loop-mark
invariant-loop-mark l =
    list_any (is_left_over l.self l.across) l.left ≡ any_left_over l.self l.across l.fn.session

abbrev pub decreases-loop-mark : goal.decreases-loop-mark
decreases-loop-mark l = length l.left
