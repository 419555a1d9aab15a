-- What an actor's call at its open endpoint makes of its node, of how it stands, and of the
-- journal.
use Rattle.std.specs.Prelude.{ℕ, ◌≡◌, ◌≤◌, ◌<◌, Bool, true, List, [], ◌∷◌, length, Option, None}
use Rattle.std.specs.Prelude.{Some}
use Rattle.linx_base.specs.Content.{data_limit}
use Rattle.linx_base.specs.NameText.{is_name}
use Rattle.linx_base.specs.declared.identity.Inc.{Inc}
use Rattle.linx_base.specs.SigNotes.{SigNote}
use Rattle.journal.specs.declared.by.By.{By}
use Rattle.journal.specs.declared.effect.Effect.{Effect}
use Rattle.journal.specs.declared.event.Event.{Event}
use Rattle.journal.specs.declared.event.Event.TheVariants as asks
use Rattle.journal.specs.declared.head.Head.{Head}
use Rattle.journal.specs.declared.head.Head.TheVariants as heads
use Rattle.journal.specs.Effects.{arrivals_of, attached, closing, hunted, send_answer}
use Rattle.journal.specs.Laws.{name_of_path}
use Rattle.journal.specs.Logs.{Log}
use Rattle.node_kernel.specs.declared.answers.StepAnswer.{StepAnswer}
use Rattle.node_kernel.specs.declared.answers.StepAnswer.TheVariants as answers
use Rattle.node_kernel.specs.declared.ask.Ask.{Ask}
use Rattle.node_kernel.specs.Calls.{after_attach, after_close, after_detach, after_hunt, after_send}
use Rattle.node_kernel.specs.Calls.{detached}
use Rattle.node_kernel.specs.Nodes.{NodeState, find_at, is_living}
use Rattle.fabric.specs.declared.call.Call.{Call}
use Rattle.fabric.specs.declared.call.Call.TheVariants.{Attach, Close, Detach, End, Hunt, Send}
use Rattle.fabric.specs.declared.standing.Standing.{Standing}
use Rattle.fabric.specs.declared.stop.StepStop.{StepStop}
use Rattle.fabric.specs.declared.stop.StopCause.TheVariants.{NoMemory}

-- the event that a call is
abbrev pub event_of_call : Call → Event
event_of_call Close = asks.Close
event_of_call End = asks.End
event_of_call (Send q signal) = asks.Send q
event_of_call (Hunt path signal) = asks.Hunt path
event_of_call (Attach q signal) = asks.Attach q
event_of_call (Detach r) = asks.Detach r

-- the signal that a call hands over, if it has one
abbrev pub hand_of_call : Call → Option SigNote
hand_of_call Close = None
hand_of_call End = None
hand_of_call (Send q signal) = Some signal
hand_of_call (Hunt path signal) = Some signal
hand_of_call (Attach q signal) = Some signal
hand_of_call (Detach r) = None

-- what a call asks for: its event, with its signal in hand
abbrev pub ask_of_call : Call → Ask
ask_of_call call = record { event = event_of_call call; hand = hand_of_call call }

-- an attach has room for the reason
abbrev pub HasRoom : Call → Type 0
HasRoom (Attach q signal) = length signal.bytes < data_limit
HasRoom _ = Unit {0}

-- a signal has no more data than one may have
abbrev pub IsBounded : Call → Type 0
IsBounded (Send q signal) = length signal.bytes ≤ data_limit
IsBounded (Hunt path signal) = length signal.bytes ≤ data_limit
IsBounded _ = Unit {0}

-- what the types of a call tell: a send's number fits four bytes, and what is hunted for is a name
abbrev pub IsTyped : Call → Type 0
IsTyped (Send q signal) = signal.number < 4294967296
IsTyped (Hunt path signal) = is_name (name_of_path path) ≡ true
IsTyped _ = Unit {0}

-- for a send it is told rightly whether its peer is alive
abbrev pub IsKnown : NodeState → Call → Bool → Type 0
IsKnown k (Send q signal) living = living ≡ is_living k q
IsKnown k _ living = Unit {0}

-- what a call makes: its node after it, the head and the effects of its step, and its answer
pub record CallMade : Type 0 where
  pub node : NodeState
  pub head : Head
  pub effects : List Effect
  pub answer : StepAnswer

-- a call at endpoint j of a node, in step n
abbrev pub call_made : NodeState → ℕ → Inc → Call → CallMade
call_made k n j Close = record {
  node = after_close k j n;
  head = heads.Close;
  effects = closing j k.attaches;
  answer = answers.Closed;
}
call_made k n j End = record {
  node = after_close k j n;
  head = heads.Ended;
  effects = closing j k.attaches;
  answer = answers.Done;
}
call_made k n j (Send q signal) = record {
  node = after_send k j q signal n;
  head = heads.Send q signal (send_answer (is_living k q) q);
  effects = arrivals_of j signal (is_living k q) q;
  answer = answers.Sent (send_answer (is_living k q) q);
}
call_made k n j (Hunt path signal) = record {
  node = after_hunt k (record { at = j; path = path; signal = signal; number = n });
  head = heads.Hunt path signal;
  effects = hunted (find_at k path)
      (record { at = j; path = path; signal = signal; number = n });
  answer = answers.Hunted n;
}
call_made k n j (Attach q signal) = record {
  node = after_attach k
      (record { at = j; peer = q; signal = signal; reference = record { 0 = n } });
  head = heads.Attach q signal;
  effects = attached (is_living k q)
      (record { at = j; peer = q; signal = signal; reference = record { 0 = n } });
  answer = answers.Attached (record { 0 = n });
}
call_made k n j (Detach r) = record {
  node = after_detach k j r;
  head = heads.Detach r (detached k j r);
  effects = [];
  answer = answers.Detached (detached k j r);
}

-- a maker has made this of a journal and a node, and it was answered
pub record IsCallMade (made : CallMade) (by : By) (log new : Log) (node : NodeState)
    (answer : StepAnswer) : Type 0 where
  pub logged :
      new ≡ record log
      { steps = record { by = by; head = made.head; effects = made.effects } ∷ log.steps }
  pub node_is : node ≡ made.node
  pub answered : answer ≡ made.answer

-- how an actor stands after step n, its call that was answered so
abbrev pub stands_after : ℕ → StepAnswer → Standing → Standing
stands_after n answers.Closed s = record s { endpoint = None; closed = n; waits = None }
stands_after n answers.Done s =
    record s { endpoint = None; closed = n; waits = None; ended = true }
stands_after n _ s = record s { waits = None }

-- memory was refused to a step with this in its hand
abbrev pub refusal_with : Option SigNote → StepStop
refusal_with hand = record { cause = NoMemory; hand = hand }
