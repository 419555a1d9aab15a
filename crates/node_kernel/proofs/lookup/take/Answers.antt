use Rattle.std.proofs.Common.{sym, ap}
use Rattle.sigsel.specs.Selection.{first_selected, without_first}
use Rattle.node_kernel.specs.Nodes.{items_at}
use Rattle.node_kernel.proofs.Places.{items_at-no_place, with_items-no_place}
use Rattle.node_kernel.proofs.lookup.take.Goals as goal

pub returns-in-None-clause-item : goal.returns-in-None-clause-item
returns-in-None-clause-item c =
    sym (ap (first_selected c.args.filter.now) (items_at-no_place c.args.endpoints.now c.args.inc
    (sym c.in-None.ensures)))

pub returns-in-None-clause-others : goal.returns-in-None-clause-others
returns-in-None-clause-others c =
    sym (with_items-no_place c.args.endpoints.now c.args.inc
    (without_first c.args.filter.now (items_at c.args.endpoints.now c.args.inc))
    (sym c.in-None.ensures))
