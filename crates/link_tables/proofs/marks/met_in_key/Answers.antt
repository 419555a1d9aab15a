use Rattle.std.proofs.Common.{refl}
use Rattle.keyed_list.proofs.Finding.{alone, same_number, same_parts}
use Rattle.link_tables.proofs.Keys.{by_mark}
use Rattle.link_tables.proofs.marks.met_in_key.Goals as goal

pub returns : goal.returns
returns c =
    by_mark _ _ (λ inc name. refl) (λ inc. refl)
    (λ node link session inc. alone (same_parts _ _ (same_number c.args.node.0 node.0)
    (same_parts _ _ (same_number c.args.link.0 link.0)
    (same_number c.args.session.0 session.0))))
