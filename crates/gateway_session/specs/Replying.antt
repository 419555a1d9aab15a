-- A gateway as a server over a stream.
use Rattle.std.specs.Prelude.{◌≡◌, ℕ, ◌⊎◌, true, List, length}
use Rattle.journal.specs.Logs.{is_full}
use Rattle.fabric.specs.declared.stop.StopCause.{StopCause}
use Rattle.fabric.specs.declared.stop.StopCause.TheVariants as causes
use Rattle.request_stream.specs.declared.server.Refusal.{Refusal}
use Rattle.request_stream.specs.declared.server.Refusal.TheVariants as refusals
use Rattle.gateway_msgs.specs.declared.reply.Reply.{Reply}
use Rattle.gateway_msgs.specs.declared.request.Request.{Request}
use Rattle.gateway_msgs.specs.Fronts.{IsRequest}
use Rattle.gateway_msgs.specs.Replies.{reply_spelling}
use Rattle.gateway_msgs.specs.Requests.{Spells, type_of}
use Rattle.gateway_core.specs.Handling.{GateState, Handles, Stops, makes_steps}

-- how many clients a gateway has
abbrev pub clients_of : GateState → ℕ
clients_of g = length g.layout.shape.actors

-- the bytes are a request of one of its clients, or of the clock
abbrev pub Asks : GateState → List ℕ → Type 0
Asks g bytes = IsRequest (clients_of g) bytes

-- A REQUEST IS REPLIED TO: it is handled, and the reply is spelled with its type and its client
pub record Replies (old : GateState) (bytes : List ℕ) (new : GateState) (reply : List ℕ) : Type 0 where
  pub client : ℕ
  pub request : Request
  pub spells : Spells (clients_of old) client request bytes
  pub answer : Reply
  pub handled : Handles client request old new answer
  pub spelled : reply ≡ reply_spelling (type_of request) client answer
  -- the clients stay
  pub clients : new.layout.shape ≡ old.layout.shape

-- no request is refused
abbrev pub Refuses : GateState → List ℕ → Type 0
Refuses g bytes = ⊥

-- A REQUEST IS STOPPED: nothing is done, but of a clock a front of what it sends
pub record IsStopped (old : GateState) (bytes : List ℕ) (new : GateState) : Type 0 where
  pub client : ℕ
  pub request : Request
  pub spells : Spells (clients_of old) client request bytes
  pub stops : Stops request old new
  pub clients : new.layout.shape ≡ old.layout.shape

-- what a request that isn't replied to leaves: all as it was, or it is stopped
abbrev pub Leaves : GateState → List ℕ → GateState → Type 0
Leaves old bytes new = (new ≡ old) ⊎ IsStopped old bytes new

-- the journal is full, as a stop of this request leaves it, which makes steps
pub record FillsUp (old : GateState) (bytes : List ℕ) : Type 0 where
  pub left : GateState
  pub stopped : IsStopped old bytes left
  pub at : makes_steps stopped.request ≡ true
  pub full : is_full left.layout.log.steps ≡ true

-- why a request isn't replied to
abbrev pub refusal_of : StopCause → Refusal
refusal_of causes.JournalFull = refusals.Full
refusal_of causes.NoMemory = refusals.NoMemory
