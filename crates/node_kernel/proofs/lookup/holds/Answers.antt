use Rattle.std.proofs.Common.{sym, ap, is_some}
use Rattle.sigsel.specs.Selection.{first_selected}
use Rattle.node_kernel.proofs.Places.{items_at-no_place}
use Rattle.node_kernel.proofs.lookup.holds.Goals as goal

pub returns-in-None : goal.returns-in-None
returns-in-None c =
    sym (ap (λ items. is_some (first_selected c.args.filter.now items))
    (items_at-no_place c.args.endpoints.now c.args.inc (sym c.in-None.ensures)))
