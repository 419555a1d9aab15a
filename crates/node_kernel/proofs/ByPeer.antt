-- What stands under the keys of a peer that was met.
use Rattle.std.proofs.Common.{◌≡◌, Bool, true, false, ◌&&◌, refl}
use Rattle.linx_base.specs.declared.identity.Inc.{Inc}
use Rattle.linx_base.specs.declared.identity.LinkNo.{LinkNo}
use Rattle.linx_base.specs.declared.identity.Session.{Session}
use Rattle.linx_base.specs.declared.identity.Peer.TheVariants.{Here, There}
use Rattle.linx_base.specs.declared.pending.MetPeer.{MetPeer}

-- what holds of both kinds of peers holds of every peer
pub by_peer : (p q : MetPeer → Bool) → ((m : MetPeer) (i : Inc)
    → p (record m { peer = Here i }) ≡ q (record m { peer = Here i }))
    → ((m : MetPeer) (l : LinkNo) (x : Session) (i : Inc)
    → p (record m { peer = There l x i }) ≡ q (record m { peer = There l x i })) → (m : MetPeer)
    → p m ≡ q m
by_peer p q here there m =
    elim m.peer as (λ peer. p (record m { peer = peer }) ≡ q (record m { peer = peer })) [
      | Here i ↦ here m i
      | There l x i ↦ there m l x i
    ]

pub and_nested : (a b c : Bool) → (a && (b && c)) ≡ ((a && b) && c)
and_nested true b c = refl
and_nested false b c = refl
