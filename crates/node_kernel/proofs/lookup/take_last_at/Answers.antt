use Rattle.std.proofs.Common.{get_or}
use Rattle.node_kernel.specs.Kept.{without_last}
use Rattle.node_kernel.proofs.Places.{put_in_place, items_at-position}
use Rattle.node_kernel.proofs.lookup.take_last_at.Goals as goal

pub returns : goal.returns
returns c =
    let es = c.args.endpoints.now in
    let old = items_at-position es c.args.inc c.args.place c.index-endpoints-place.result
    c.requires in
    rw old (put_in_place es c.args.inc (without_last
    (get_or es c.args.place c.index-endpoints-place.result).items) c.args.place
    c.index-endpoints-place.result c.take_last.new.self c.requires c.take_last.ensures)
