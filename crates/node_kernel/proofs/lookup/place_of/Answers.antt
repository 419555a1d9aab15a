use Rattle.std.proofs.Common.{◌∙◌, sym, ap}
use Rattle.node_kernel.specs.Nodes.{is_at}
use Rattle.node_kernel.proofs.Rising.{found_at, not_found, not_past}
use Rattle.node_kernel.proofs.lookup.place_of.Goals as goal

pub returns-in_err-endpoint : goal.returns-in_err-endpoint
returns-in_err-endpoint c =
    c.from_residual.ensures
    ∙ sym (not_past c.args.inc c.args.endpoints.now c.count_earlier-at.result
    c.count_earlier-at.ensures.between c.in_err-endpoint.ensures.lookup.3)

pub returns-then-is_at : goal.returns-then-is_at
returns-then-is_at c =
    let read = c.in_ok-endpoint.ensures.lookup.3 in
    let d = c.in_ok-endpoint.endpoint.now in
    sym (found_at c.args.inc c.args.endpoints.now c.count_earlier-at.result
    c.count_earlier-at.ensures.between d read.0 (ap (is_at c.args.inc) (sym (read.1 d))
    ∙ sym c.is_at.ensures ∙ c.if-is_at.true))

pub returns-else-is_at : goal.returns-else-is_at
returns-else-is_at c =
    let read = c.in_ok-endpoint.ensures.lookup.3 in
    let d = c.in_ok-endpoint.endpoint.now in
    sym (not_found c.args.inc c.args.endpoints.now c.count_earlier-at.result
    c.count_earlier-at.ensures.between c.requires d read.0
    (ap (is_at c.args.inc) (sym (read.1 d)) ∙ sym c.is_at.ensures ∙ c.if-is_at.false))
