use Rattle.std.proofs.Common.{refl}
use Rattle.keyed_list.proofs.Finding.{alone, same_number}
use Rattle.link_tables.proofs.Keys.{by_mark}
use Rattle.link_tables.proofs.marks.closed_key.Goals as goal

pub returns : goal.returns
returns c =
    by_mark _ _ (λ inc name. refl) (λ inc. alone (same_number c.args.inc.0 inc.0))
    (λ node link session inc. refl)
