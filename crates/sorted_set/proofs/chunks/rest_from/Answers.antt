use Rattle.std.proofs.Common.{◌∙◌, ◌++◌, ◌+◌, drop, ap, sym, subst, add-one}
use Rattle.std.proofs.lemmas.List.{take_rest}
use Rattle.sorted_set.specs.Chunks.{AreFilled, joined}
use Rattle.sorted_set.proofs.Chunking.{ascends_at, from_parts}
use Rattle.sorted_set.proofs.Walking.{filled_drop}
use Rattle.sorted_set.proofs.chunks.rest_from.Goals as goal

pub count_below-first-requires : goal.count_below-first-requires
count_below-first-requires g c =
    ascends_at g.T.Ord.cmp c.args.chunks.now c.chunk_for-at.result c.index-chunks-at.result
    c.requires c.chunk_for-at.ensures.within c.index-chunks-at.is

pub of-requires-2 : goal.of-requires-2
of-requires-2 g c =
    subst AreFilled (sym (take_rest c.args.chunks.now (c.chunk_for-at.result + 1)))
    (filled_drop (c.chunk_for-at.result + 1) c.args.chunks.now c.requires.filled)

pub returns : goal.returns
returns g c =
    let at = c.chunk_for-at.result in
    let later =
    take_rest c.args.chunks.now (at + 1) ∙ ap (λ n. drop n c.args.chunks.now) (add-one at) in
    c.of-2.ensures
    ∙ (λ i. c.part_from.ensures i ++ joined (later i))
    ∙ sym (from_parts g.T.Ord.cmp c.args.from.now c.args.chunks.now at c.chunk_for-at.ensures
    c.index-chunks-at.result c.index-chunks-at.is c.count_below-first.result
    c.count_below-first.ensures.rest 0)
