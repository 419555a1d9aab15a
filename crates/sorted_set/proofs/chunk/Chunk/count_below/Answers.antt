use Rattle.sorted_set.proofs.Placing.{from_missing, from_found}
use Rattle.sorted_set.proofs.chunk.Chunk.count_below.Goals as goal

pub returns-in-Ok-clause-rest : goal.returns-in-Ok-clause-rest
returns-in-Ok-clause-rest g c =
    from_found g.T.Ord.cmp g.met.T.Ord.total c.args.element.now c.args.self.now
    c.requires c.in-Ok.at (rw (c.deref.ensures.value, c.self.view_is) at c.in-Ok.ensures.bound)
    (rw (c.deref.ensures.value, c.self.view_is) at c.in-Ok.ensures.position)

pub returns-in-Err-clause-rest : goal.returns-in-Err-clause-rest
returns-in-Err-clause-rest g c =
    from_missing g.T.Ord.cmp g.met.T.Ord.total c.args.element.now c.args.self.now
    c.requires c.in-Err.at (rw (c.deref.ensures.value, c.self.view_is) at
    c.in-Err.ensures.bound) (rw (c.deref.ensures.value, c.self.view_is) at
    c.in-Err.ensures.position)
