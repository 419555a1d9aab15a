use Rattle.sorted_set.proofs.Placing.{remove_missing, remove_found}
use Rattle.sorted_set.proofs.chunk.Chunk.remove.Goals as goal

pub returns-in-Ok : goal.returns-in-Ok
returns-in-Ok g c =
    let is = remove_found g.T.Ord.cmp g.met.T.Ord.total c.args.element.now _ c.requires c.in-Ok.at
    (rw (c.deref.ensures.value, c.self.view_is) at c.in-Ok.ensures.bound)
    (rw (c.deref.ensures.value, c.self.view_is) at c.in-Ok.ensures.position) in
    rw (c.remove.ensures.items, c.self.view_is) is

pub returns-in_default : goal.returns-in_default
returns-in_default g c =
    let says = c.in_default.ensures in
    remove_missing g.T.Ord.cmp g.met.T.Ord.total c.args.element.now c.args.self.now
    c.requires c.in_default.field-0 (rw (c.deref.ensures.value, c.self.view_is) at says.bound)
    (rw (c.deref.ensures.value, c.self.view_is) at says.position)
