use Rattle.std.proofs.Common.{◌∙◌, sym, ap, position}
use Rattle.linx_base.proofs.FirstMatches.{without_match-no_place, without_match-position}
use Rattle.node_kernel.specs.Nodes.{is_at}
use Rattle.node_kernel.proofs.lookup.remove.Goals as goal

pub returns-in-None : goal.returns-in-None
returns-in-None c =
    sym (without_match-no_place (is_at c.args.inc) c.args.endpoints.now.items
    (ap (position (is_at c.args.inc)) (sym c.deref.ensures.value) ∙ sym c.in-None.ensures))

pub returns-in-Some : goal.returns-in-Some
returns-in-Some c =
    c.remove.ensures.items
    ∙ sym (without_match-position (is_at c.args.inc) c.args.endpoints.now.items c.in-Some.place
    c.remove.result (ap (position (is_at c.args.inc)) (sym c.deref.ensures.value)
    ∙ sym c.in-Some.ensures))
