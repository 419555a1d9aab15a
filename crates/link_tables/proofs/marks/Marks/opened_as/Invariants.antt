use Rattle.std.proofs.Common.{◌≡◌, fold, length}
use Rattle.std.specs.Option.{option_copied}
use Rattle.link_tables.specs.Marks.{name_after, opened_as}
use Rattle.link_tables.proofs.marks.Marks.opened_as.Given as goal

-- with the marks that are left the name is what it is with all
abbrev pub invariant-loop-mark : goal.invariant-loop-mark
invariant-loop-mark l =
    fold (name_after l.inc) (option_copied l.name) l.left ≡ opened_as l.inc l.self

abbrev pub decreases-loop-mark : goal.decreases-loop-mark
decreases-loop-mark l = length l.left
