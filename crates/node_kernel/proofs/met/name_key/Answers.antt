use Rattle.std.proofs.Common.{refl, ◌∙◌}
use Rattle.keyed_list.proofs.Finding.{alone, flipped, same_number, same_parts, same_text}
use Rattle.node_kernel.proofs.ByPeer.{by_peer}
use Rattle.node_kernel.proofs.met.name_key.Goals as goal

pub returns : goal.returns
returns c =
    by_peer _ _ (λ m j. refl) (λ m l x j. alone (same_parts _ _ (same_number c.args.link.0 l.0
    ∙ flipped c.args.link.0 l.0) (same_text c.args.name m.name)))
