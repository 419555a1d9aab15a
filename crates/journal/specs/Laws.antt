-- The laws of a step at its node, after the steps before it. When a step is legal, by these and by
-- the laws of links, and when a journal is, link_laws says.
use Rattle.std.specs.Prelude.{ℕ, suc, ◌≡◌, ◌≤◌, ◌<◌, Bool, true, false, ◌==◌, List, [], length}
use Rattle.std.specs.Prelude.{is_none, is_some, IsSomeAnd, Option, Some, None}
use Rattle.std.specs.List.{list_any}
use Rattle.linx_base.specs.Content.{data_limit}
use Rattle.linx_base.specs.NameText.{is_name}
use Rattle.linx_base.specs.declared.identity.AttRef.{AttRef}
use Rattle.linx_base.specs.declared.identity.Inc.{Inc}
use Rattle.linx_base.specs.declared.identity.Peer.{Peer}
use Rattle.linx_base.specs.declared.name.Path.{Path}
use Rattle.linx_base.specs.declared.name.Path.TheVariants.{Local, Over}
use Rattle.linx_base.specs.SigNotes.{SigNote}
use Rattle.sigsel.specs.Selection.{first_selected, is_notice_of}
use Rattle.journal.specs.declared.by.By.{By}
use Rattle.journal.specs.declared.by.By.TheVariants.{Actor, Pump}
use Rattle.journal.specs.declared.head.Detached.{Detached}
use Rattle.journal.specs.declared.head.Head.{Head}
use Rattle.journal.specs.declared.head.Head.TheVariants.{Open, Close, Send, Take, TakeNone, Waits}
use Rattle.journal.specs.declared.head.Head.TheVariants.{Hunt, Attach, Detach, Cut, Mend, Settle}
use Rattle.journal.specs.declared.head.Head.TheVariants.{Restart, Wire, Tick, Refused, Ended}
use Rattle.journal.specs.declared.effect.Effect.{Effect}
use Rattle.journal.specs.declared.effect.Step.{Step}
use Rattle.journal.specs.Effects.{opening, ending, arrivals_of, hunted, attached, closings}
use Rattle.journal.specs.Effects.{send_answer, detach_answer}
use Rattle.journal.specs.History.{has_ended, next_inc, open_endpoints, opened_on}
use Rattle.journal.specs.Living.{find, is_alive}
use Rattle.linx_base.specs.Pending.{is_attach}
use Rattle.journal.specs.Pending.{hunting, owed}
use Rattle.journal.specs.Rest.{IsAtRest, queue_of, waits_with}
use Rattle.journal.specs.Shapes.{Shape}

-- a maker is an actor of the shape that hasn't ended, or the pump of one of its links
abbrev pub IsMaker : Shape → List Step → By → Type 0
IsMaker shape P (Actor k) = (0 < k) × (k ≤ length shape.actors) × (has_ended P k ≡ false)
IsMaker shape P (Pump link) = (0 < link.0) × (link.0 ≤ length shape.links)

-- what a maker may do: an actor anything, the pump of a link only what its wires and its clock do
abbrev pub may_make : By → Head → Bool
may_make (Actor k) head = true
may_make (Pump link) (Wire l side verdict) = l.0 == link.0
may_make (Pump link) (Tick l side) = l.0 == link.0
may_make (Pump link) _ = false

-- LAW OF MAKERS. A step is made by one who makes steps, and is one that this maker may make
pub record KeepsMakers (shape : Shape) (P : List Step) (by : By) (head : Head) : Type 0 where
  pub maker : IsMaker shape P by
  pub may : may_make by head ≡ true

-- a step of this head opens its maker's endpoint
abbrev pub is_opening : Head → Bool
is_opening (Open name) = true
is_opening _ = false

-- a step of this head is one of its maker's endpoint
abbrev pub is_endpoints : Head → Bool
is_endpoints Close = true
is_endpoints (Send q note answer) = true
is_endpoints (Take filter position) = true
is_endpoints (TakeNone filter) = true
is_endpoints (Waits filter) = true
is_endpoints (Hunt path note) = true
is_endpoints (Attach q note) = true
is_endpoints (Detach r answer) = true
is_endpoints _ = false

-- LAW OF ENDPOINTS. Who opens an endpoint has none, and the steps of an endpoint need one
pub record KeepsEndpoints (me : Option Inc) (head : Head) : Type 0 where
  pub opens : is_opening head ≡ true → is_none me ≡ true
  pub needs : is_endpoints head ≡ true → is_some me ≡ true

-- the name that a path hunts for
abbrev pub name_of_path : Path → List ℕ
name_of_path (Local name) = name
name_of_path (Over link name) = name

-- LAW OF BOUNDS. A name that is opened or hunted for is one, a signal has at most 65,532 data
-- bytes, and the signal of an attach one fewer, for its reason
abbrev pub IsBounded : Head → Type 0
IsBounded (Open name) = is_name name ≡ true
IsBounded (Send q note answer) = length note.bytes ≤ data_limit
IsBounded (Hunt path note) =
    (is_name (name_of_path path) ≡ true) × (length note.bytes ≤ data_limit)
IsBounded (Attach q note) = length note.bytes < data_limit
IsBounded _ = Unit {0}

-- what a send of an endpoint brings; nothing where its maker has no endpoint
abbrev pub sending : List Step → ℕ → Option Inc → Peer → SigNote → List Effect
sending P node None q note = []
sending P node (Some j) q note = arrivals_of j note (is_alive P node q) q

-- what a hunt of an endpoint brings: its answer where the path finds a peer; nothing where its
-- maker has no endpoint
abbrev pub hunting_by : List Step → ℕ → Option Inc → Path → SigNote → List Effect
hunting_by P node None path note = []
hunting_by P node (Some j) path note =
    hunted (find P node path)
    (record { at = j; path = path; signal = note; number = suc (length P) })

-- what an attach of an endpoint brings: a notification where the peer isn't alive; nothing where
-- its maker has no endpoint
abbrev pub attaching : List Step → ℕ → Option Inc → Peer → SigNote → List Effect
attaching P node None q note = []
attaching P node (Some j) q note =
    attached (is_alive P node q)
    (record { at = j; peer = q; signal = note; reference = record { 0 = suc (length P) } })

-- THE EFFECTS of a step, by the node and the endpoint of its maker, and its head. What a packet and
-- a tick bring, and the sessions that go down at a restart, link_laws says
abbrev pub effects_by : List Step → ℕ → Option Inc → Head → List Effect
effects_by P node me (Open name) = opening (next_inc node (opened_on P node)) name (hunting P node)
effects_by P node me Close = ending me (owed P node)
effects_by P node me (Send q note answer) = sending P node me q note
effects_by P node me (Take filter position) = []
effects_by P node me (TakeNone filter) = []
effects_by P node me (Waits filter) = []
effects_by P node me (Hunt path note) = hunting_by P node me path note
effects_by P node me (Attach q note) = attaching P node me q note
effects_by P node me (Detach r answer) = []
effects_by P node me (Cut l) = []
effects_by P node me (Mend l) = []
effects_by P node me (Settle l) = []
effects_by P node me (Restart n) = closings (open_endpoints P n.0)
effects_by P node me (Wire l side verdict) = []
effects_by P node me (Tick l side) = []
effects_by P node me (Refused reason) = []
effects_by P node me Ended = ending me (owed P node)

-- LAW OF SENDS. A signal is answered dead exactly where the peer isn't alive, queued where it is an
-- endpoint of the node, and link where it is one over a link
abbrev pub KeepsSends : List Step → ℕ → Head → Type 0
KeepsSends P node (Send q note answer) = answer ≡ send_answer (is_alive P node q) q
KeepsSends P node _ = Unit {0}

-- the maker is an actor that is at rest
abbrev pub IsMakerAtRest : Shape → List Step → By → Type 0
IsMakerAtRest shape P (Actor k) = IsAtRest shape P k
IsMakerAtRest shape P (Pump link) = ⊥

-- the last step of the maker doesn't say that it waits
abbrev pub HasNotWaited : List Step → By → Type 0
HasNotWaited P (Actor k) = waits_with P k ≡ None
HasNotWaited P (Pump link) = ⊥

-- the attach is one of this endpoint, and is owed
abbrev pub is_owed : List Step → ℕ → Option Inc → AttRef → Bool
is_owed P node None r = false
is_owed P node (Some j) r = list_any (is_attach j r) (owed P node)

-- the answer to a detach: whether the attach was owed, or its notification is queued
abbrev pub detached_as : List Step → ℕ → Option Inc → AttRef → Detached
detached_as P node me r =
    detach_answer (is_owed P node me r) (list_any (is_notice_of r) (queue_of P me))

-- LAW OF RECEIVING. A receive takes the earliest item that its filter selects; or it finds none,
-- and then nothing is selected and its maker is at rest; or it waits, and then nothing is selected
-- and its maker doesn't wait already. A detach cancels what is owed, or takes out what is queued
abbrev pub KeepsReceives : Shape → List Step → ℕ → By → Option Inc → Head → Type 0
KeepsReceives shape P node by me (Take filter position) =
    IsSomeAnd (first_selected filter (queue_of P me)) (λ item. item.pos ≡ position)
KeepsReceives shape P node by me (TakeNone filter) =
    (first_selected filter (queue_of P me) ≡ None) × IsMakerAtRest shape P by
KeepsReceives shape P node by me (Waits filter) =
    (first_selected filter (queue_of P me) ≡ None) × HasNotWaited P by
KeepsReceives shape P node by me (Detach r answer) = answer ≡ detached_as P node me r
KeepsReceives shape P node by me _ = Unit {0}
