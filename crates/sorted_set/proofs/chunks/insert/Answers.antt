use Rattle.std.proofs.Common.{ap, ◌∙◌}
use Rattle.sorted_set.proofs.Chunking.{ascends_at, insert_in}
use Rattle.std.specs.BTreeSet.{insert_key}
use Rattle.sorted_set.proofs.chunks.insert.Goals as goal

pub insert-requires : goal.insert-requires
insert-requires g c =
    ascends_at g.T.Ord.cmp c.room_for.new.chunks.items c.in_ok-at.at c.index_mut.result.now
    c.in_ok-at.ensures.chunks c.in_ok-at.ensures.place.within c.index_mut.ensures.value

pub returns-clause-ok : goal.returns-clause-ok
returns-clause-ok g c =
    let both =
    insert_in g.T.Ord.cmp g.met.T.Ord.total c.args.element c.room_for.new.chunks.items
    c.in_ok-at.at c.in_ok-at.ensures.chunks c.in_ok-at.ensures.place c.index_mut.result.now
    c.insert.new.self c.index_mut.ensures.value c.in_ok-insert.ensures.ok in
    both.0 ∙ ap (λ l. insert_key g.T.Ord.cmp l c.args.element) c.in_ok-at.ensures.elements

pub returns-clause-chunks : goal.returns-clause-chunks
returns-clause-chunks g c =
    let both =
    insert_in g.T.Ord.cmp g.met.T.Ord.total c.args.element c.room_for.new.chunks.items
    c.in_ok-at.at c.in_ok-at.ensures.chunks c.in_ok-at.ensures.place c.index_mut.result.now
    c.insert.new.self c.index_mut.ensures.value c.in_ok-insert.ensures.ok in
    both.1
