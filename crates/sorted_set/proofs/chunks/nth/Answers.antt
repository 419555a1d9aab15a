use Rattle.std.proofs.Common.{◌∙◌, ap, sym, ◌+◌, drop, arith, slice_get}
use Rattle.sorted_set.specs.Chunks.{joined}
use Rattle.sorted_set.proofs.Chunking.{slice_get-front, slice_get-back, joined_drop}
use Rattle.sorted_set.proofs.chunks.nth.Goals as goal

pub returns-then-left-len : goal.returns-then-left-len
returns-then-left-len g c =
    let at = joined_drop c.args.chunks.now c.loop-chunk.chunk-index c.chunk-item.result
    c.loop-chunk-test.true c.chunk-item.is in
    c.get.ensures
    ∙ sym (slice_get-front c.chunk-item.result
    (joined (drop (c.loop-chunk.chunk-index + 1) c.args.chunks.now)) c.loop-chunk.left
    (omega arith))
    ∙ ap (λ l. slice_get l c.loop-chunk.left) (sym at)
    ∙ sym c.loop-chunk.invariant

pub loop-chunk-preserved : goal.loop-chunk-preserved
loop-chunk-preserved g c =
    let at = joined_drop c.args.chunks.now c.loop-chunk.chunk-index c.chunk-item.result
    c.loop-chunk-test.true c.chunk-item.is in
    c.loop-chunk.invariant
    ∙ ap (λ l. slice_get l c.loop-chunk.left) at
    ∙ slice_get-back c.chunk-item.result
    (joined (drop (c.loop-chunk.chunk-index + 1) c.args.chunks.now)) c.loop-chunk.left _
    (omega arith)
