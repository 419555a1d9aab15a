use Rattle.std.proofs.Common.{◌≡◌}
use Rattle.fabric.specs.Standings.{empty_nodes}
use Rattle.journal_check.proofs.checker.kernels_of.Given as goal

-- the nodes so far
abbrev pub invariant-loop-place : goal.invariant-loop-place
invariant-loop-place l = l.kernels.items ≡ empty_nodes l.place
