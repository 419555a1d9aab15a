use Rattle.std.proofs.Common.{◌≡◌, drop, slice_get}
use Rattle.sorted_set.specs.Chunks.{joined}
use Rattle.sorted_set.proofs.chunks.nth.Given as goal

-- the element is one of those that are left
abbrev pub invariant-loop-chunk : goal.invariant-loop-chunk
invariant-loop-chunk g l =
    slice_get (joined l.chunks) l.k ≡ slice_get (joined (drop l.chunk-index l.chunks)) l.left
