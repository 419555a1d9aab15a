use Rattle.std.proofs.Common.{get_or, not, filter}
use Rattle.sigsel.specs.Selection.{is_notice_of}
use Rattle.node_kernel.proofs.Places.{put_in_place, items_at-position}
use Rattle.node_kernel.proofs.lookup.drop_notices_at.Goals as goal

pub returns-clause-any : goal.returns-clause-any
returns-clause-any c =
    let old = items_at-position c.args.endpoints.now c.args.inc c.args.place
    c.index-endpoints-place.result c.requires in
    rw old c.drop_notices.ensures.any

pub returns-clause-others : goal.returns-clause-others
returns-clause-others c =
    let es = c.args.endpoints.now in
    let old = items_at-position es c.args.inc c.args.place c.index-endpoints-place.result
    c.requires in
    rw old (put_in_place es c.args.inc (filter (λ item. not (is_notice_of c.args.attach item))
    (get_or es c.args.place c.index-endpoints-place.result).items) c.args.place
    c.index-endpoints-place.result c.drop_notices.new.self
    c.requires c.drop_notices.ensures.others)
