use Rattle.std.proofs.Common.{refl, ◌∙◌, ◌==◌}
use Rattle.keyed_list.proofs.Finding.{alone, flipped, same_number, same_parts}
use Rattle.link_tables.proofs.Keys.{and_nested, by_mark}
use Rattle.link_tables.proofs.marks.met_key.Goals as goal

pub returns : goal.returns
returns c =
    by_mark _ _ (λ inc name. refl) (λ inc. refl)
    (λ node link session inc. alone (same_parts _ _
    (same_number c.args.node.0 node.0 ∙ flipped c.args.node.0 node.0)
    (same_parts _ _ (same_number c.args.link.0 link.0)
    (same_parts _ _ (same_number c.args.session.0 session.0) (same_number c.args.inc.0 inc.0))
    ∙ and_nested (c.args.link.0 == link.0) (c.args.session.0 == session.0)
    (c.args.inc.0 == inc.0))))
