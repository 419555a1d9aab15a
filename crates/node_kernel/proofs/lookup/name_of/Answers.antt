use Rattle.std.proofs.Common.{◌∙◌, sym, ap, Some, option_copied}
use Rattle.linx_base.proofs.FirstMatches.{first_match-no_place, first_match-position}
use Rattle.node_kernel.specs.Nodes.{OpenEndpoint, is_at, name_if}
use Rattle.node_kernel.proofs.lookup.name_of.Goals as goal

pub returns-in_err-place : goal.returns-in_err-place
returns-in_err-place c =
    ap option_copied c.from_residual.ensures
    ∙ sym (ap name_if (first_match-no_place (is_at c.args.inc) c.args.endpoints.now
    (sym c.in_err-place.ensures)))

pub returns : goal.returns
returns c =
    let there = first_match-position (is_at c.args.inc) c.args.endpoints.now c.in_ok-place.place
    c.index-endpoints-place.result (sym c.in_ok-place.ensures) in
    ap Some (c.name.ensures ∙ ap (λ (e : OpenEndpoint). e.name) c.index-endpoints-place.is)
    ∙ sym (ap name_if there)
