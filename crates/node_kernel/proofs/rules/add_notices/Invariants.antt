use Rattle.std.proofs.Common.{◌≡◌, ◌++◌, length, map}
use Rattle.journal.specs.Effects.{notice}
use Rattle.attach_table.specs.Attaches.{HaveRoom}
use Rattle.node_kernel.proofs.rules.add_notices.Given as goal

-- the notifications so far, and those of the attaches that are left, are all
abbrev pub invariant-loop-attach : goal.invariant-loop-attach
invariant-loop-attach l = record {
  told : l.effects ++ map (notice l.reason) l.left
      ≡ l.fn.effects ++ map (notice l.reason) l.fn.left;
  room : HaveRoom l.left;
}

abbrev pub decreases-loop-attach : goal.decreases-loop-attach
decreases-loop-attach l = length l.left
