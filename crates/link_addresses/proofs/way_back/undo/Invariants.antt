use Rattle.std.proofs.Common.{◌≡◌, ◌≤◌, nat_eq, length, take}
use Rattle.std.specs.HashMap.{get}
use Rattle.link_addresses.specs.Finding.{AreGroups, IsIndexOf}
use Rattle.link_addresses.specs.WayBack.{undone, CanUndo}
use Rattle.link_addresses.proofs.way_back.undo.Given as goal

-- the changes that are left lead back to the same meanings
abbrev pub invariant-undo : goal.invariant-undo
invariant-undo l =
    (l.left ≤ length l.changes)
    × (undone (take l.left l.changes) l.meanings.items ≡ undone l.changes l.fn.meanings.items)
    × CanUndo (get nat_eq l.index) (take l.left l.changes) l.meanings.items
    × IsIndexOf (get nat_eq l.index) l.meanings.items
    × AreGroups l.full.items l.meanings.items

abbrev pub decreases-undo : goal.decreases-undo
decreases-undo l = l.left
