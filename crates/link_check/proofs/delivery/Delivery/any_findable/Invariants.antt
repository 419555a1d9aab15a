use Rattle.std.proofs.Common.{◌≡◌, length}
use Rattle.std.specs.List.{list_any}
use Rattle.link_check.specs.Stillness.{any_findable, is_findable}
use Rattle.link_check.proofs.delivery.Delivery.any_findable.Given as goal

-- of those that are left one is findable exactly where one of all is
abbrev pub invariant-loop-hunt : goal.invariant-loop-hunt
invariant-loop-hunt l =
    list_any (is_findable l.self l.across) l.left ≡ any_findable l.self l.across

abbrev pub decreases-loop-hunt : goal.decreases-loop-hunt
decreases-loop-hunt l = length l.left
