use Rattle.std.proofs.Common.{get_or}
use Rattle.sigsel.specs.Selection.{without_first}
use Rattle.node_kernel.proofs.Places.{put_in_place, items_at-position}
use Rattle.node_kernel.proofs.lookup.take_at.Goals as goal

pub returns-clause-item : goal.returns-clause-item
returns-clause-item c =
    let old = items_at-position c.args.endpoints.now c.args.inc c.args.place
    c.index-endpoints-place.result c.requires in
    rw old c.take.ensures.item

pub returns-clause-others : goal.returns-clause-others
returns-clause-others c =
    let es = c.args.endpoints.now in
    let old = items_at-position es c.args.inc c.args.place c.index-endpoints-place.result
    c.requires in
    rw old (put_in_place es c.args.inc (without_first c.args.filter.now
    (get_or es c.args.place c.index-endpoints-place.result).items) c.args.place
    c.index-endpoints-place.result c.take.new.self c.requires c.take.ensures.others)
