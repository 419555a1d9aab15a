use Rattle.std.proofs.Common.{◌∙◌, ap, is_some}
use Rattle.node_kernel.proofs.Places.{is_open-position}
use Rattle.node_kernel.proofs.lookup.has_endpoint.Goals as goal

pub returns : goal.returns
returns c = c.is_some.ensures ∙ ap is_some c.place_of.ensures
    ∙ is_open-position c.args.endpoints.now c.args.inc
