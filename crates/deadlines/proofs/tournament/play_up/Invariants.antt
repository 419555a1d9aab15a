use Rattle.std.proofs.Common.{◌≡◌, ℕ, ◌+◌, ◌*◌, ◌<◌, ◌≤◌, length}
use Rattle.deadlines.specs.Tournament.{leader_at, slots_most}
use Rattle.deadlines.proofs.Playing.{AreLedBut, IsAtOrAbove}
use Rattle.deadlines.proofs.tournament.play_up.Given as goal

-- this node, which stands above the slot's leaf, and those above it are to play; but for those below
-- it all are as they were
abbrev pub invariant-loop-node : goal.invariant-loop-node
invariant-loop-node l = record {
  inside : l.node < length l.tree.items;
  long : length l.tree.items ≡ length l.fn.tree.items;
  leaves : length l.tree.items ≤ slots_most;
  above : IsAtOrAbove l.node (length l.fn.tree.items + l.slot);
  same : (i : ℕ) → i < 2 * l.node → leader_at l.tree.items i ≡ leader_at l.fn.tree.items i;
  led : AreLedBut l.slots.slots l.tree.items l.node;
}

abbrev pub decreases-loop-node : goal.decreases-loop-node
decreases-loop-node l = l.node
