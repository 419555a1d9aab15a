-- What an endpoint has got of a peer whose close it was notified of.
use Rattle.std.specs.Prelude.{◌≡◌, ◌&&◌, Bool, false, List, [], ◌∷◌}
use Rattle.std.specs.List.{list_any, AllByRecursion}
use Rattle.linx_base.specs.Numbers.{node_of}
use Rattle.linx_base.specs.Peers.{same_inc, same_peer}
use Rattle.linx_base.specs.declared.identity.Inc.{Inc}
use Rattle.linx_base.specs.declared.identity.Peer.{Peer}
use Rattle.linx_base.specs.declared.identity.Peer.TheVariants.{Here, There}
use Rattle.linx_base.specs.declared.signal.Reason.TheVariants as reasons
use Rattle.journal.specs.History.{effects_of}
use Rattle.journal.specs.Traffic.{arrived_from, sent_to}
use Rattle.journal.specs.declared.effect.Effect.{Effect}
use Rattle.journal.specs.declared.effect.Effect.TheVariants.{Arrived, Notified}
use Rattle.journal.specs.declared.effect.Step.{Step}
use Rattle.link_laws.specs.Promises.{GotAll}
use Rattle.link_laws.specs.Sessions.{paired_session}

-- all that a peer sent to an endpoint has arrived there: on the node what it sent, over a link what
-- it sent in the session that the peer's is paired with
abbrev pub HasAllOf : List Step → Inc → Peer → Type 0
HasAllOf P j (Here i) = arrived_from P j (Here i) ≡ sent_to P i (Here j)
HasAllOf P j (There l x i) = GotAll P l x i j (paired_session P (node_of j) l.0 x)

-- an effect that notifies a close comes only where all that the peer sent has arrived
abbrev pub IsToldWhole : List Step → Effect → Type 0
IsToldWhole P (Notified j q note reference reasons.Closed) = HasAllOf P j q
IsToldWhole P _ = Unit {0}

-- COMPLETE WHEN ITS CLOSE IS NOTIFIED: in each step all that a peer sent has arrived where its
-- close is notified
abbrev pub AllToldWhole : List Step → Type 0
AllToldWhole [] = Unit {0}
AllToldWhole (s ∷ P) = AllToldWhole P × AllByRecursion (IsToldWhole (s ∷ P)) s.effects

-- the effect notifies this endpoint of the close of this peer
abbrev pub notifies_close : Inc → Peer → Effect → Bool
notifies_close j q (Notified i p note reference reasons.Closed) = same_inc i j && same_peer p q
notifies_close j q _ = false

-- an endpoint was notified of the close of a peer
abbrev pub was_told_closed : List Step → Inc → Peer → Bool
was_told_closed P j q = list_any (notifies_close j q) (effects_of P)

-- what arrives is of no peer whose close was notified there
abbrev pub IsOfUntold : List Step → Effect → Type 0
IsOfUntold P (Arrived j q note) = was_told_closed P j q ≡ false
IsOfUntold P _ = Unit {0}

-- AND NEVER FOLLOWED BY MORE: in no step anything arrives of a peer whose close was notified before
abbrev pub NeverAfterTold : List Step → Type 0
NeverAfterTold [] = Unit {0}
NeverAfterTold (s ∷ P) = NeverAfterTold P × AllByRecursion (IsOfUntold P) s.effects
