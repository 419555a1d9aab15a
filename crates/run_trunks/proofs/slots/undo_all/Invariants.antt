use Rattle.std.proofs.Common.{◌≡◌, take}
use Rattle.linx_base.specs.Both.{Both, still}
use Rattle.trunk.specs.Events.{TrunkState}
use Rattle.run_trunks.specs.Changes.{each_by}
use Rattle.run_trunks.proofs.slots.undo_all.Given as goal

-- the trunks so far are undone
abbrev pub invariant-loop-trunk : goal.invariant-loop-trunk
invariant-loop-trunk l =
    l.trunks ≡ each_by (λ (b : Both TrunkState) (y : Both TrunkState). still b.was)
    (take l.trunk-index l.initial.trunks) l.initial.trunks
