-- What was sent over links, as a list of signals, each with its flow.
use Rattle.std.specs.Prelude.{◌≡◌, Bool, ◌&&◌, ◌==◌, List, [], ◌∷◌, ◌++◌, filter, map, Option, Some}
use Rattle.std.specs.Prelude.{None, if◌then◌else◌}
use Rattle.std.specs.List.{fold, list_any}
use Rattle.linx_base.specs.Peers.{same_inc, same_peer}
use Rattle.linx_base.specs.SigNotes.{SigNote}
use Rattle.linx_base.specs.declared.identity.Inc.{Inc}
use Rattle.linx_base.specs.declared.identity.LinkNo.{LinkNo}
use Rattle.linx_base.specs.declared.identity.Session.{Session}
use Rattle.linx_base.specs.declared.identity.Peer.{Peer}
use Rattle.linx_base.specs.declared.identity.Peer.TheVariants.{Here, There}
use Rattle.journal.specs.History.{endpoint_by}
use Rattle.journal.specs.Traffic.{was_sent}
use Rattle.journal.specs.declared.effect.Step.{Step}
use Rattle.journal.specs.declared.head.Head.{Head}
use Rattle.journal.specs.declared.head.Head.TheVariants.{Send}
use Rattle.link_tables.specs.declared.sent.Flow.{Flow}
use Rattle.link_tables.specs.declared.sent.FlowKey.{FlowKey}
use Rattle.link_tables.specs.declared.sent.FlowKey.TheVariants as keys
use Rattle.link_tables.specs.declared.sent.SentOver.{SentOver}

-- a signal is found by its flow
abbrev pub sent_keys : SentOver → List Flow
sent_keys sent = sent.flow ∷ []

-- a flow is found as itself, by who it is from in which session, and by its session of a link
abbrev pub flow_keys : Flow → List FlowKey
flow_keys f = keys.Itself f ∷ keys.From f.at f.link f.session ∷ keys.In f.link f.session ∷ []

-- the peer of a flow
abbrev pub peer_of : Flow → Peer
peer_of flow = There flow.link flow.session flow.peer

-- two flows are one
abbrev pub same_flow : Flow → Flow → Bool
same_flow f g = same_inc f.at g.at && same_peer (peer_of g) (peer_of f)

-- a flow from this endpoint, in this session of a link
abbrev pub is_from : Inc → LinkNo → Session → Flow → Bool
is_from at link session f =
    same_inc at f.at && (link.0 == f.link.0 && session.0 == f.session.0)

-- a flow in this session of a link
abbrev pub is_in : LinkNo → Session → Flow → Bool
is_in link session f = link.0 == f.link.0 && session.0 == f.session.0

-- the signals of a flow, in order
abbrev pub notes_of : Flow → List SentOver → List SigNote
notes_of flow sent = map (λ s. s.note) (filter (λ s. same_flow flow s.flow) sent)

-- flows with one more, if it is new
abbrev pub with_flow : List Flow → SentOver → List Flow
with_flow flows s = if list_any (same_flow s.flow) flows then flows else flows ++ s.flow ∷ []

-- THE FLOWS of signals, each once, in the order of their first signals
abbrev pub flows_of : List SentOver → List Flow
flows_of sent = fold with_flow [] sent

-- the flow from an endpoint to a peer over a link; none of a peer on the own node
abbrev pub flow_to : Inc → Peer → Option Flow
flow_to at (Here inc) = None
flow_to at (There link session inc) =
    Some (record { at = at; link = link; session = session; peer = inc })

-- a signal with its flow, if it has one
abbrev pub in_flow : Option Flow → SigNote → Option SentOver
in_flow None note = None
in_flow (Some flow) note = Some (record { flow = flow; note = note })

-- WHAT AN ENDPOINT SENDS by a head over a link
abbrev pub sent_over : Inc → Head → Option SentOver
sent_over at (Send to note answer) = if was_sent answer then in_flow (flow_to at to) note else None
sent_over at _ = None

-- the signals that were sent over links with one more, if there is one
abbrev pub with_sent : List SentOver → Option SentOver → List SentOver
with_sent sent None = sent
with_sent sent (Some s) = sent ++ s ∷ []

-- the signals that were sent over links once this endpoint made a step of this head
abbrev pub sent_past : Option Inc → Head → List SentOver → List SentOver
sent_past None head sent = sent
sent_past (Some at) head sent = with_sent sent (sent_over at head)

-- all that was sent over links so far
abbrev pub sent_left : List Step → List SentOver
sent_left [] = []
sent_left (s ∷ P) = sent_past (endpoint_by P s.by) s.head (sent_left P)
