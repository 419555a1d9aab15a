use Rattle.std.specs.Prelude.{Bool, true, false, ◌&&◌, List, [], ◌∷◌, ◌++◌, Option, Some, None}
use Rattle.std.specs.Prelude.{if◌then◌else◌}
use Rattle.std.specs.List.{filter_map}
use Rattle.linx_base.specs.Peers.{same_inc, same_peer}
use Rattle.linx_base.specs.declared.identity.Inc.{Inc}
use Rattle.linx_base.specs.declared.identity.Peer.{Peer}
use Rattle.linx_base.specs.SigNotes.{SigNote}
use Rattle.journal.specs.declared.head.Head.{Head}
use Rattle.journal.specs.declared.head.Head.TheVariants.{Send}
use Rattle.journal.specs.declared.head.SentTo.{SentTo}
use Rattle.journal.specs.declared.head.SentTo.TheVariants.{Queued, Link, Dead}
use Rattle.journal.specs.declared.effect.Effect.{Effect}
use Rattle.journal.specs.declared.effect.Effect.TheVariants.{Arrived}
use Rattle.journal.specs.declared.effect.Step.{Step}
use Rattle.journal.specs.History.{endpoint_by, effects_of}

-- the signal went to a queue or a link
abbrev pub was_sent : SentTo → Bool
was_sent Queued = true
was_sent Link = true
was_sent Dead = false

-- the endpoint is this one
abbrev pub is_endpoint : Inc → Option Inc → Bool
is_endpoint i None = false
is_endpoint i (Some j) = same_inc i j

-- what a head sends to a peer
abbrev pub sent_by : Peer → Head → List SigNote
sent_by q (Send p note answer) = if was_sent answer && same_peer p q then note ∷ [] else []
sent_by q _ = []

-- the signals that an endpoint sent to a peer, in order, without those that were dead
abbrev pub sent_to : List Step → Inc → Peer → List SigNote
sent_to [] i q = []
sent_to (s ∷ P) i q =
    sent_to P i q ++ (if is_endpoint i (endpoint_by P s.by) then sent_by q s.head else [])

-- the signal that an effect brings to an endpoint from a peer
abbrev pub arrival_in : Inc → Peer → Effect → Option SigNote
arrival_in j q (Arrived i p note) = if same_inc i j && same_peer p q then Some note else None
arrival_in j q _ = None

-- the signals that arrived at an endpoint from a peer, in order
abbrev pub arrived_from : List Step → Inc → Peer → List SigNote
arrived_from P j q = filter_map (arrival_in j q) (effects_of P)
