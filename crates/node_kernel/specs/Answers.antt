-- What heads name, and what steps answer.
use Rattle.std.specs.Prelude.{ℕ, ◌+◌, Bool, true, false, List, [], ◌∷◌, length}
use Rattle.std.specs.Prelude.{Option, Some, None, if◌then◌else◌}
use Rattle.linx_base.specs.declared.identity.Inc.{Inc}
use Rattle.linx_base.specs.declared.identity.ItemAt.{ItemAt}
use Rattle.linx_base.specs.declared.identity.Peer.TheVariants.{Here}
use Rattle.linx_base.specs.declared.item.Item.{Item}
use Rattle.linx_base.specs.declared.item.Kind.TheVariants.{Plain}
use Rattle.linx_base.specs.SigNotes.{SigNote}
use Rattle.journal.specs.declared.event.Event.{Event}
use Rattle.journal.specs.declared.event.Event.TheVariants as asks
use Rattle.journal.specs.declared.head.Head.{Head}
use Rattle.journal.specs.declared.head.Head.TheVariants as heads
use Rattle.journal.specs.declared.head.Refusal.{Refusal}
use Rattle.journal.specs.declared.head.Refusal.TheVariants.{NotOpen, IsOpen}
use Rattle.journal.specs.declared.effect.Effect.{Effect}
use Rattle.journal.specs.declared.effect.Step.{Step}
use Rattle.journal.specs.History.{closed_step, endpoint_of, last_opened}
use Rattle.journal.specs.Logs.{effect_at}
use Rattle.journal.specs.Queues.{items_from}
use Rattle.node_kernel.specs.declared.answers.StepAnswer.{StepAnswer}
use Rattle.node_kernel.specs.declared.answers.StepAnswer.TheVariants as answers
use Rattle.node_kernel.specs.declared.ask.Ask.{Ask}

-- the event that a head names
abbrev pub event_of : Head → Event
event_of (heads.Open name) = asks.Open name
event_of heads.Close = asks.Close
event_of (heads.Send peer note answer) = asks.Send peer
event_of (heads.Take filter position) = asks.Look filter
event_of (heads.TakeNone filter) = asks.Look filter
event_of (heads.Waits filter) = asks.Look filter
event_of (heads.Hunt path note) = asks.Hunt path
event_of (heads.Attach peer note) = asks.Attach peer
event_of (heads.Detach r answer) = asks.Detach r
event_of (heads.Cut link) = asks.Cut link
event_of (heads.Mend link) = asks.Mend link
event_of (heads.Settle link) = asks.Settle link
event_of (heads.Restart node) = asks.Restart node
event_of (heads.Wire link from verdict) = asks.Wire link from verdict
event_of (heads.Tick link side) = asks.Tick link side
event_of (heads.Refused reason) = asks.Refuse reason
event_of heads.Ended = asks.End

-- the signal that it says was in hand
abbrev pub hand_of : Head → Option SigNote
hand_of (heads.Send peer note answer) = Some note
hand_of (heads.Hunt path note) = Some note
hand_of (heads.Attach peer note) = Some note
hand_of _ = None

-- what a head names: its event, and what was in hand
abbrev pub named : Head → Ask
named head = record { event = event_of head; hand = hand_of head }

-- the step is one of a link's pump
abbrev pub is_pump_event : Event → Bool
is_pump_event (asks.Wire link from verdict) = true
is_pump_event (asks.Tick link side) = true
is_pump_event _ = false

-- the head is of such a step
abbrev pub is_pumped : Head → Bool
is_pumped head = is_pump_event (event_of head)

-- the event is the end of an actor
abbrev pub is_end_event : Event → Bool
is_end_event asks.End = true
is_end_event _ = false

-- the head says that nothing was found yet
abbrev pub is_waits : Head → Bool
is_waits (heads.Waits filter) = true
is_waits _ = false

-- the answer says that nothing was found yet
abbrev pub is_not_yet : StepAnswer → Bool
is_not_yet answers.NotYet = true
is_not_yet _ = false

-- the event needs an open endpoint
abbrev pub needs_endpoint : Event → Bool
needs_endpoint asks.Close = true
needs_endpoint (asks.Send peer) = true
needs_endpoint (asks.Look filter) = true
needs_endpoint (asks.Hunt path) = true
needs_endpoint (asks.Attach peer) = true
needs_endpoint (asks.Detach r) = true
needs_endpoint _ = false

-- the event needs that there is none
abbrev pub asks_to_open : Event → Bool
asks_to_open (asks.Open name) = true
asks_to_open _ = false

-- a refusal, in place of what was asked
abbrev pub refused : Refusal → Ask
refused reason = record { event = asks.Refuse reason; hand = None }

-- what is done of what is asked, by the endpoint of the actor and the step that closed its last one
abbrev pub granted_by : Option Inc → ℕ → Ask → Ask
granted_by (Some i) at ask = if asks_to_open ask.event then refused (IsOpen i) else ask
granted_by None at ask = if needs_endpoint ask.event then refused (NotOpen at) else ask

-- what is done of what actor k asks after P
abbrev pub granted : List Step → ℕ → Ask → Ask
granted P k ask = granted_by (endpoint_of P k) (closed_step P k) ask

-- the item that stands first in a list; a plain one of no bytes where there is none
abbrev pub item_or_none : ItemAt → List Item → Item
item_or_none at [] =
    record {
      signal = record { number = 0; bytes = [] };
      from = Here (record { 0 = 0 });
      kind = Plain;
      pos = at;
    }
item_or_none at (item ∷ items) = item

-- the items that the effect at a position put into a queue
abbrev pub items_by : ItemAt → Option Effect → List Item
items_by at None = []
items_by at (Some e) = items_from at e

-- the item that came at a position
abbrev pub item_at : List Step → ItemAt → Item
item_at P at = item_or_none at (items_by at (effect_at P at))

-- the answer to an opening of this endpoint
abbrev pub opened_as : Option Inc → StepAnswer
opened_as (Some i) = answers.Opened i
opened_as None = answers.Done

-- the answer of a step after P
abbrev pub answer_of : List Step → Head → List Effect → StepAnswer
answer_of P (heads.Open name) es = opened_as (last_opened None es)
answer_of P heads.Close es = answers.Closed
answer_of P (heads.Send peer note answer) es = answers.Sent answer
answer_of P (heads.Take filter position) es = answers.Took (item_at P position)
answer_of P (heads.TakeNone filter) es = answers.Nothing
answer_of P (heads.Waits filter) es = answers.NotYet
answer_of P (heads.Hunt path note) es = answers.Hunted (length P + 1)
answer_of P (heads.Attach peer note) es = answers.Attached (record { 0 = length P + 1 })
answer_of P (heads.Detach r answer) es = answers.Detached answer
answer_of P (heads.Cut link) es = answers.Done
answer_of P (heads.Mend link) es = answers.Done
answer_of P (heads.Settle link) es = answers.Done
answer_of P (heads.Restart node) es = answers.Done
answer_of P (heads.Wire link from verdict) es = answers.Done
answer_of P (heads.Tick link side) es = answers.Done
answer_of P (heads.Refused reason) es = answers.Refused reason
answer_of P heads.Ended es = answers.Done
