use Rattle.sorted_set.proofs.Placing.{insert_missing, insert_found}
use Rattle.sorted_set.proofs.chunk.Chunk.insert.Goals as goal

pub returns-in_ok-insert-clause-ok : goal.returns-in_ok-insert-clause-ok
returns-in_ok-insert-clause-ok g c =
    let is = insert_missing g.T.Ord.cmp g.met.T.Ord.total c.args.element _ c.requires c.in-Err.at
    (rw (c.deref.ensures.value, c.self.view_is) at c.in-Err.ensures.bound)
    (rw (c.deref.ensures.value, c.self.view_is) at c.in-Err.ensures.position) in
    rw (c.in_ok-insert.ensures.items, c.self.view_is) is

pub returns-in_default-clause-ok : goal.returns-in_default-clause-ok
returns-in_default-clause-ok g c =
    let says = c.in_default.ensures in
    insert_found g.T.Ord.cmp g.met.T.Ord.total c.args.element c.args.self.now
    c.requires c.in_default.field-0 (rw (c.deref.ensures.value, c.self.view_is) at says.bound)
    (rw (c.deref.ensures.value, c.self.view_is) at says.position)
