use Rattle.std.proofs.Common.{refl, ◌∙◌, ◌==◌}
use Rattle.keyed_list.proofs.Finding.{alone, same_number, same_parts}
use Rattle.node_kernel.proofs.ByPeer.{and_nested, by_peer}
use Rattle.node_kernel.proofs.met.peer_key.Goals as goal

pub returns-in-Here-clause-finds : goal.returns-in-Here-clause-finds
returns-in-Here-clause-finds c =
    let i = c.in-Here.inc in
    rw c.in-Here.is (by_peer _ _ (λ m j. alone (same_number i.0 j.0)) (λ m l x j. refl))

pub returns-in-There-clause-finds : goal.returns-in-There-clause-finds
returns-in-There-clause-finds c =
    let there = c.in-There in
    rw c.in-There.is (by_peer _ _ (λ m j. refl) (λ m l x j. alone
    (same_parts _ _ (same_number there.link.0 l.0)
    (same_parts _ _ (same_number there.session.0 x.0) (same_number there.inc.0 j.0))
    ∙ and_nested (there.link.0 == l.0) (there.session.0 == x.0) (there.inc.0 == j.0))))
