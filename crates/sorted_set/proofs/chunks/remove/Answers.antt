use Rattle.std.proofs.Common.{◌≡◌, ◌==◌, true, false, length, arith}
use Rattle.std.proofs.lemmas.Bool.Decides.{nat_tests}
use Rattle.sorted_set.proofs.Chunking.{ascends_at, emptied, remove_in, remove_whole}
use Rattle.sorted_set.proofs.chunks.remove.Goals as goal

pub remove-requires : goal.remove-requires
remove-requires g c =
    let place = rw c.deref.ensures.value at c.chunk_for-at.ensures in
    ascends_at g.T.Ord.cmp c.args.chunks.now.items c.chunk_for-at.result c.index_mut.result.now
    c.requires place.within c.index_mut.ensures.value

pub returns-then-is_empty-2 : goal.returns-then-is_empty-2
returns-then-is_empty-2 g c =
    let place = rw c.deref.ensures.value at c.chunk_for-at.ensures in
    let chunks = c.args.chunks.now.items in
    let empty : (length c.remove.new.self == 0) ≡ true =
    emptied chunks _ _ _ true place.within c.index.ensures c.if-is_empty-2.ensures in
    let whole =
    remove_whole g.T.Ord.cmp g.met.T.Ord.total c.args.element.now chunks c.chunk_for-at.result
    c.requires place c.index_mut.result.now c.remove.new.self c.index_mut.ensures.value
    c.remove-then-is_empty-2.new.self.items c.remove.ensures (grind (arith, nat_tests))
    c.remove-then-is_empty-2.ensures.items in
    record { elements = whole.0; chunks = whole.1 }

pub returns-else-is_empty-2 : goal.returns-else-is_empty-2
returns-else-is_empty-2 g c =
    let place = rw c.deref.ensures.value at c.chunk_for-at.ensures in
    let chunks = c.args.chunks.now.items in
    let filled : (length c.remove.new.self == 0) ≡ false =
    emptied chunks _ _ _ false place.within c.index.ensures c.if-is_empty-2.ensures in
    let rest =
    remove_in g.T.Ord.cmp g.met.T.Ord.total c.args.element.now chunks c.chunk_for-at.result
    c.requires place c.index_mut.result.now c.remove.new.self c.index_mut.ensures.value
    c.remove.ensures (grind (arith, nat_tests)) in
    record { elements = rest.0; chunks = rest.1 }
