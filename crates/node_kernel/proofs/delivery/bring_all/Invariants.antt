use Rattle.std.proofs.Common.{◌≡◌, take}
use Rattle.node_kernel.specs.Nodes.{put_all}
use Rattle.node_kernel.proofs.delivery.bring_all.Given as goal

-- what the effects so far deliver is put
abbrev pub invariant-loop-k : goal.invariant-loop-k
invariant-loop-k l = l.endpoints ≡ put_all l.step (take l.k l.effects) l.fn.endpoints
