use Rattle.std.proofs.Common.{◌≡◌}
use Rattle.fabric.specs.Downs.{downs_on}
use Rattle.fabric.proofs.makings.downs_of.Given as goal

-- the ends over the links so far
abbrev pub invariant-loop-place : goal.invariant-loop-place
invariant-loop-place l =
    l.downs.items ≡ downs_on l.trunks.links l.node.0 l.trunks.is l.place
