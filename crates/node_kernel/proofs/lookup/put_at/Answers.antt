use Rattle.std.proofs.Common.{[], ◌∷◌, ◌++◌, arith, get_or}
use Rattle.node_kernel.proofs.Places.{put_in_place, items_at-position}
use Rattle.node_kernel.proofs.lookup.put_at.Goals as goal

pub returns-clause-ok : goal.returns-clause-ok
returns-clause-ok c =
    let es = c.args.endpoints.now in
    let old = items_at-position es c.args.inc c.args.place c.index-endpoints-place.result
    c.requires in
    rw old (grind (
      arith,
      put_in_place es c.args.inc
          (((get_or es c.args.place c.index-endpoints-place.result).items) ++ c.args.item ∷ [])
          c.args.place c.index-endpoints-place.result c.put.new.self c.requires,
    ))
