use Rattle.std.proofs.Common.{◌∙◌, sym}
use Rattle.node_kernel.specs.Nodes.{items_at}
use Rattle.node_kernel.specs.Kept.{without_last}
use Rattle.node_kernel.proofs.Places.{with_items-no_place}
use Rattle.node_kernel.proofs.Bringing.{changed}
use Rattle.node_kernel.proofs.lookup.take_last.Goals as goal

pub returns-in-Some : goal.returns-in-Some
returns-in-Some c = let e = changed c.args.endpoints.now c.args.inc without_last c.requires in cc

pub returns-in_default : goal.returns-in_default
returns-in_default c =
    let es = c.args.endpoints.now in
    sym (with_items-no_place es c.args.inc (without_last (items_at es c.args.inc))
    (sym c.in_default.ensures))
    ∙ changed es c.args.inc without_last c.requires
