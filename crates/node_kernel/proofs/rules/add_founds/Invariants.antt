use Rattle.std.proofs.Common.{◌≡◌, ◌++◌, length, map}
use Rattle.journal.specs.Effects.{found, founds}
use Rattle.node_kernel.proofs.rules.add_founds.Given as goal

-- the answers so far, and those to the hunts that are left, are all
abbrev pub invariant-loop-hunt : goal.invariant-loop-hunt
invariant-loop-hunt l = l.effects ++ map (found l.peer) l.left
    ≡ l.fn.effects ++ founds l.path l.peer l.hunts

abbrev pub decreases-loop-hunt : goal.decreases-loop-hunt
decreases-loop-hunt l = length l.left
