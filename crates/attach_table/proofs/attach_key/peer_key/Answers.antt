use Rattle.std.proofs.Common.{refl}
use Rattle.keyed_list.proofs.Finding.{same_number, alone}
use Rattle.attach_table.proofs.Finding.{by_peer, same_three}
use Rattle.attach_table.proofs.attach_key.peer_key.Goals as goal

pub returns-in-Here-clause-finds : goal.returns-in-Here-clause-finds
returns-in-Here-clause-finds c =
    rw c.in-Here.is (by_peer _ _ (λ a inc. alone (same_number c.in-Here.inc.0 inc.0))
    (λ a link session inc. refl))

pub returns-in-There-clause-finds : goal.returns-in-There-clause-finds
returns-in-There-clause-finds c =
    let to = c.in-There in
    rw to.is (by_peer _ _ (λ a inc. refl) (λ a link session inc. alone
    (same_three _ _ _ (same_number to.link.0 link.0) (same_number to.session.0 session.0)
    (same_number to.inc.0 inc.0))))
