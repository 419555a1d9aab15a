use Rattle.std.proofs.Common.{◌∙◌, ap, ◌+◌, ◌-◌, refl, arith, slice_get}
use Rattle.std.proofs.lemmas.List.{take_rest}
use Rattle.sorted_set.specs.Chunks.{joined}
use Rattle.sorted_set.proofs.Chunking.{ascends_at, nth_here, nth_later}
use Rattle.sorted_set.proofs.chunks.nth_from.Goals as goal

pub count_below-first-requires : goal.count_below-first-requires
count_below-first-requires g c =
    ascends_at g.T.Ord.cmp c.args.chunks.now c.chunk_for-at.result c.index-chunks-at.result
    c.requires c.chunk_for-at.ensures.within c.index-chunks-at.is

pub returns-then-k-here : goal.returns-then-k-here
returns-then-k-here g c =
    c.get.ensures
    ∙ nth_here g.T.Ord.cmp c.args.from.now c.args.chunks.now c.chunk_for-at.result
    c.chunk_for-at.ensures c.index-chunks-at.result c.index-chunks-at.is
    c.count_below-first.result c.count_below-first.ensures.rest c.args.k (omega arith)

pub returns : goal.returns
returns g c =
    c.nth.ensures
    ∙ ap (λ l. slice_get (joined l) (c.args.k - (c.len.result - c.count_below-first.result)))
    (take_rest c.args.chunks.now (c.chunk_for-at.result + 1))
    ∙ nth_later g.T.Ord.cmp c.args.from.now c.args.chunks.now c.chunk_for-at.result
    c.chunk_for-at.ensures c.index-chunks-at.result c.index-chunks-at.is
    c.count_below-first.result c.count_below-first.ensures.rest c.args.k
    (c.chunk_for-at.result + 1) _ c.count_below-first.ensures.within (omega arith) refl
    (omega arith)
