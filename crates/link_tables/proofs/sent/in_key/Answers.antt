use Rattle.keyed_list.proofs.Finding.{alone, same_number, same_parts}
use Rattle.link_tables.proofs.sent.in_key.Goals as goal

pub returns : goal.returns
returns c =
    λ f. alone (same_parts _ _ (same_number c.args.link.0 f.link.0)
    (same_number c.args.session.0 f.session.0))
