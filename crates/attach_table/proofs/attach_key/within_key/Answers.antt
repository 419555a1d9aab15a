use Rattle.std.proofs.Common.{refl, ◌∙◌}
use Rattle.keyed_list.proofs.Finding.{alone, flipped, same_number, same_parts}
use Rattle.attach_table.proofs.Finding.{by_peer}
use Rattle.attach_table.proofs.attach_key.within_key.Goals as goal

pub returns : goal.returns
returns c =
    let l = c.args.link in
    let x = c.args.session in
    by_peer _ _ (λ a i. refl) (λ a m y i. alone (same_parts _ _
    (same_number l.0 m.0 ∙ flipped l.0 m.0) (same_number x.0 y.0 ∙ flipped x.0 y.0)))
