use Rattle.node_kernel.proofs.Places.{items_at-position}
use Rattle.node_kernel.proofs.lookup.holds_at.Goals as goal

pub returns : goal.returns
returns c =
    let there = items_at-position c.args.endpoints.now c.args.inc c.args.place
    c.index-endpoints-place.result c.requires in
    rw there (rw (← c.index-endpoints-place.is) c.holds.ensures)
