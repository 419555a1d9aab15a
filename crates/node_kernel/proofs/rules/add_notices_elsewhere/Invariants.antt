use Rattle.std.proofs.Common.{◌≡◌, ◌++◌, length, map, not, filter}
use Rattle.linx_base.specs.Peers.{same_inc, same_peer}
use Rattle.linx_base.specs.declared.identity.Peer.TheVariants.{Here}
use Rattle.linx_base.specs.declared.signal.Reason.TheVariants.{Closed}
use Rattle.journal.specs.Effects.{held_elsewhere, notice, notices}
use Rattle.attach_table.specs.Attaches.{HaveRoom}
use Rattle.node_kernel.proofs.rules.add_notices_elsewhere.Given as goal

-- the notifications so far, and those of the attaches that are left and that another endpoint
-- holds, are all
abbrev pub invariant-loop-attach : goal.invariant-loop-attach
invariant-loop-attach l = record {
  told : l.effects ++ map (notice Closed) (filter (λ a. not (same_inc l.inc a.at)) l.left)
      ≡ l.fn.effects ++ notices Closed (same_peer (Here l.inc)) (held_elsewhere l.inc l.attaches);
  room : HaveRoom l.left;
}

abbrev pub decreases-loop-attach : goal.decreases-loop-attach
decreases-loop-attach l = length l.left
