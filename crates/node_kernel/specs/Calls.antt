-- What the calls of a kernel leave. The effects that they have are words of the journal.
use Rattle.std.specs.Prelude.{ℕ, ◌+◌, ◌≡◌, Bool, true, false, not, List, [], ◌∷◌, ◌++◌}
use Rattle.std.specs.Prelude.{length, filter, Option, Some, None}
use Rattle.std.specs.List.{list_any}
use Rattle.linx_base.specs.Peers.{same_inc, same_path, same_peer}
use Rattle.linx_base.specs.Pending.{is_attach, is_of_session}
use Rattle.linx_base.specs.declared.identity.AttRef.{AttRef}
use Rattle.linx_base.specs.declared.identity.Inc.{Inc}
use Rattle.linx_base.specs.declared.identity.LinkNo.{LinkNo}
use Rattle.linx_base.specs.declared.identity.Peer.{Peer}
use Rattle.linx_base.specs.declared.identity.Peer.TheVariants.{Here, There}
use Rattle.linx_base.specs.declared.identity.Session.{Session}
use Rattle.linx_base.specs.declared.name.Path.TheVariants.{Local, Over}
use Rattle.linx_base.specs.declared.pending.PendingAttach.{PendingAttach}
use Rattle.linx_base.specs.declared.pending.PendingHunt.{PendingHunt}
use Rattle.linx_base.specs.SigNotes.{SigNote}
use Rattle.sigsel.specs.Selection.{is_notice_of}
use Rattle.journal.specs.declared.head.Detached.{Detached}
use Rattle.journal.specs.declared.head.Detached.TheVariants.{Pending, Queued as FromQueue}
use Rattle.journal.specs.declared.head.Detached.TheVariants.{None as Neither}
use Rattle.journal.specs.declared.effect.Effect.TheVariants.{Arrived}
use Rattle.journal.specs.Effects.{opening, closing, arrivals_of, hunted, attached, detach_answer}
use Rattle.journal.specs.Effects.{held_elsewhere, meeting, parting, losing}
use Rattle.node_kernel.specs.declared.answers.OpenError.{OpenError}
use Rattle.node_kernel.specs.declared.answers.OpenError.TheVariants.{Full, NoMemory}
use Rattle.node_kernel.specs.declared.answers.Sent.{Sent}
use Rattle.node_kernel.specs.declared.answers.Sent.TheVariants.{Queued, Link, Dead}
use Rattle.node_kernel.specs.Nodes.{OpenEndpoint, NodeState, endpoint_limit, items_at, with_items}
use Rattle.node_kernel.specs.Nodes.{without_endpoint, put_all, find_at, is_living, next_of}

-- OPENING. The node after it: one more endpoint at the end, whose queue is empty; what was found is
-- put, and no hunt for the name is pending
abbrev pub after_open : NodeState → List ℕ → ℕ → NodeState
after_open k name step = record k {
  openings = k.openings + 1;
  endpoints = put_all step (opening (next_of k) name k.hunts)
      (k.endpoints ++ record { inc = next_of k; name = name; items = [] } ∷ []);
  hunts = filter (λ h. not (same_path (Local name) h.path)) k.hunts;
}

-- why no endpoint was opened, with the name that comes back
abbrev pub RefusesOpening : List OpenEndpoint → List ℕ → OpenError → Type 0
RefusesOpening endpoints name (Full back) = (back ≡ name) × (length endpoints ≡ endpoint_limit)
RefusesOpening endpoints name (NoMemory back) = back ≡ name

-- CLOSING. The attaches that are neither held by an endpoint nor to it
abbrev pub apart_from : Inc → List PendingAttach → List PendingAttach
apart_from j attaches = filter (λ a. not (same_peer (Here j) a.peer)) (held_elsewhere j attaches)

-- the node after a closing: the endpoint is gone with its queue, its hunts and its attaches, and
-- who was attached to it is notified
abbrev pub after_close : NodeState → Inc → ℕ → NodeState
after_close k j step = record k {
  endpoints = put_all step (closing j k.attaches) (without_endpoint k.endpoints j);
  hunts = filter (λ h. not (same_inc j h.at)) k.hunts;
  attaches = apart_from j k.attaches;
}

-- SENDING. The node after a send: a signal to a living endpoint goes last into its queue, one to a
-- peer that isn't alive is freed, and one over a link is for the link
abbrev pub after_send : NodeState → Inc → Peer → SigNote → ℕ → NodeState
after_send k from to signal step = record k {
  endpoints = put_all step (arrivals_of from signal (is_living k to) to) k.endpoints;
}

-- what became of a signal to a peer, which is alive or not
abbrev pub IsSentAs : Bool → Peer → SigNote → Sent → Type 0
IsSentAs false to signal Dead = Unit {0}
IsSentAs true (Here i) signal Queued = Unit {0}
IsSentAs true (There link session i) signal (Link back) = back ≡ signal
IsSentAs _ to signal _ = ⊥

-- HUNTING. The hunts with one more, unless it found a peer at once
abbrev pub with_hunt : Option Peer → PendingHunt → List PendingHunt → List PendingHunt
with_hunt None h hunts = hunts ++ h ∷ []
with_hunt (Some q) h hunts = hunts

-- the node after a hunt
abbrev pub after_hunt : NodeState → PendingHunt → NodeState
after_hunt k h = record k {
  endpoints = put_all h.number (hunted (find_at k h.path) h) k.endpoints;
  hunts = with_hunt (find_at k h.path) h k.hunts;
}

-- ATTACHING. The attaches with one more, where its peer is alive
abbrev pub with_attach : Bool → PendingAttach → List PendingAttach → List PendingAttach
with_attach true a attaches = attaches ++ a ∷ []
with_attach false a attaches = attaches

-- the node after an attach, made by the step that is its reference
abbrev pub after_attach : NodeState → PendingAttach → NodeState
after_attach k a = record k {
  endpoints = put_all a.reference.0 (attached (is_living k a.peer) a) k.endpoints;
  attaches = with_attach (is_living k a.peer) a k.attaches;
}

-- DETACHING. The answer to a detach at a node
abbrev pub detached : NodeState → Inc → AttRef → Detached
detached k j r =
    detach_answer (list_any (is_attach j r) k.attaches)
    (list_any (is_notice_of r) (items_at k.endpoints j))

-- the node after a detach: the attach is cancelled, or its notification is taken out of the queue
abbrev pub after_detach_of : Detached → NodeState → Inc → AttRef → NodeState
after_detach_of Pending k j r = record k {
  attaches =
      filter (λ a. not (is_attach j r a)) k.attaches;
}
after_detach_of FromQueue k j r = record k {
  endpoints = with_items k.endpoints j (filter (λ item. not (is_notice_of r item))
      (items_at k.endpoints j));
}
after_detach_of Neither k j r = k

-- the node after an endpoint detached
abbrev pub after_detach : NodeState → Inc → AttRef → NodeState
after_detach k j r = after_detach_of (detached k j r) k j r

-- RESTARTING. The node after it: nothing is left, but the openings are counted on
abbrev pub after_restart : NodeState → NodeState
after_restart k = record k { endpoints = []; hunts = []; attaches = []; met = [] }

-- OVER LINKS. The node after an arrival
abbrev pub after_arrival : NodeState → Inc → Peer → SigNote → ℕ → NodeState
after_arrival k at from signal step = record k {
  endpoints = put_all step (Arrived at from signal ∷ []) k.endpoints;
}

-- the node after a meeting
abbrev pub after_met : NodeState → LinkNo → Peer → List ℕ → ℕ → NodeState
after_met k link peer name step = record k {
  endpoints = put_all step (meeting k.node link peer name k.hunts) k.endpoints;
  hunts = filter (λ h. not (same_path (Over link name) h.path)) k.hunts;
  met = k.met ++ record { peer = peer; name = name } ∷ [];
}

-- the node after a parting
abbrev pub after_gone : NodeState → Peer → ℕ → NodeState
after_gone k peer step = record k {
  endpoints = put_all step (parting k.node peer k.attaches) k.endpoints;
  attaches = filter (λ a. not (same_peer peer a.peer)) k.attaches;
  met = filter (λ m. not (same_peer peer m.peer)) k.met;
}

-- the node after the loss of a session
abbrev pub after_down : NodeState → LinkNo → Session → ℕ → NodeState
after_down k link session step = record k {
  endpoints = put_all step (losing k.node link session k.attaches) k.endpoints;
  attaches = filter (λ a. not (is_of_session link session a.peer)) k.attaches;
  met = filter (λ m. not (is_of_session link session m.peer)) k.met;
}
