-- Whom a node can reach: its own open endpoints, and the peers that it met over its links.
use Rattle.std.specs.Prelude.{ℕ, Bool, false, not, ◌&&◌, ◌==◌, List, [], ◌∷◌, ◌++◌, filter, Option}
use Rattle.std.specs.Prelude.{Some, None, if◌then◌else◌}
use Rattle.std.specs.List.{list_any, fold}
use Rattle.std.specs.Str.{bytes_eq}
use Rattle.linx_base.specs.FirstMatch.{first_match}
use Rattle.linx_base.specs.Peers.{same_inc, same_peer}
use Rattle.linx_base.specs.Pending.{is_of_session}
use Rattle.linx_base.specs.declared.identity.Inc.{Inc}
use Rattle.linx_base.specs.declared.identity.LinkNo.{LinkNo}
use Rattle.linx_base.specs.declared.identity.Peer.{Peer}
use Rattle.linx_base.specs.declared.identity.Peer.TheVariants.{Here, There}
use Rattle.linx_base.specs.declared.name.Path.{Path}
use Rattle.linx_base.specs.declared.name.Path.TheVariants.{Local, Over}
use Rattle.linx_base.specs.declared.pending.MetPeer.{MetPeer}
use Rattle.journal.specs.declared.effect.Effect.{Effect}
use Rattle.journal.specs.declared.effect.Effect.TheVariants.{Met, Gone, Down}
use Rattle.journal.specs.declared.effect.Step.{Step}
use Rattle.journal.specs.History.{open_endpoints, name_of}

-- a peer is one over this link
abbrev pub is_peer_over : LinkNo → Peer → Bool
is_peer_over l (Here i) = false
is_peer_over l (There m y i) = m.0 == l.0

-- the living peers of a node after an effect: it meets one, parts from one, or loses a session's
abbrev pub living_after : ℕ → List MetPeer → Effect → List MetPeer
living_after node before (Met n q name) =
    if n.0 == node then before ++ (record { peer = q; name = name }) ∷ [] else before
living_after node before (Gone n q) =
    if n.0 == node then filter (λ m. not (same_peer q m.peer)) before else before
living_after node before (Down n l x) =
    if n.0 == node then filter (λ m. not (is_of_session l x m.peer)) before else before
living_after node before _ = before

-- the living peers of a node over its links, in order of meeting
abbrev pub living : List Step → ℕ → List MetPeer
living [] node = []
living (s ∷ P) node = fold (living_after node) (living P node) s.effects

-- the peer was met and lives
abbrev pub is_met : List MetPeer → Peer → Bool
is_met met q = list_any (λ m. same_peer q m.peer) met

-- a peer is alive at a node: an endpoint of it that is open, or one met over a link that lives
abbrev pub is_alive : List Step → ℕ → Peer → Bool
is_alive P node (Here i) = list_any (same_inc i) (open_endpoints P node)
is_alive P node (There l x i) = is_met (living P node) (There l x i)

-- the peer of an incarnation of the own node, or none
abbrev pub here : Option Inc → Option Peer
here None = None
here (Some i) = Some (Here i)

-- the peer that was met, or none
abbrev pub met_peer : Option MetPeer → Option Peer
met_peer None = None
met_peer (Some m) = Some m.peer

-- a met peer has this name, over this link
abbrev pub is_named_over : LinkNo → List ℕ → MetPeer → Bool
is_named_over l name m = is_peer_over l m.peer && bytes_eq name m.name

-- the first opened endpoint of a node that has this name and is open
abbrev pub holder_of : List Step → ℕ → List ℕ → Option Inc
holder_of P node name = first_match (λ i. bytes_eq name (name_of P i)) (open_endpoints P node)

-- what a path finds at a node: the first opened endpoint of the name that is open, or the first met
-- peer of the name that lives
abbrev pub find : List Step → ℕ → Path → Option Peer
find P node (Local name) = here (holder_of P node name)
find P node (Over l name) = met_peer (first_match (is_named_over l name) (living P node))
