use Rattle.std.proofs.Common.{sym, ap, not, filter}
use Rattle.std.specs.List.{list_any}
use Rattle.sigsel.specs.Selection.{is_notice_of}
use Rattle.node_kernel.specs.Nodes.{items_at}
use Rattle.node_kernel.proofs.Places.{items_at-no_place, with_items-no_place}
use Rattle.node_kernel.proofs.lookup.drop_notices.Goals as goal

pub returns-in-None-clause-any : goal.returns-in-None-clause-any
returns-in-None-clause-any c =
    sym (ap (list_any (is_notice_of c.args.attach))
    (items_at-no_place c.args.endpoints.now c.args.inc (sym c.in-None.ensures)))

pub returns-in-None-clause-others : goal.returns-in-None-clause-others
returns-in-None-clause-others c =
    sym (with_items-no_place c.args.endpoints.now c.args.inc
    (filter (λ item. not (is_notice_of c.args.attach item))
    (items_at c.args.endpoints.now c.args.inc)) (sym c.in-None.ensures))
