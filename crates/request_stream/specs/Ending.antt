-- How a session over a stream ends.
use Rattle.std.specs.Prelude.{◌≡◌, ℕ, ◌+◌, ◌-◌, ◌<◌, ◌≤◌, ◌⊎◌, List, [], Option, Result, Err}
use Rattle.std.specs.Prelude.{length, take}
use Rattle.std.specs.Io.KnownBytes.{IsAtEnd}
use Rattle.linx_outside.specs.Counts.{HasFaulted}
use Rattle.linx_outside.specs.Told.{AppendsFront}
use Rattle.request_stream.specs.declared.stop.ServeStop.{ServeStop}
use Rattle.request_stream.specs.declared.stop.ServeStop.TheVariants.{Torn, BadStream, Full}
use Rattle.request_stream.specs.declared.stop.ServeStop.TheVariants.{ReadFault, WriteFault}
use Rattle.request_stream.specs.declared.stop.ServeStop.TheVariants.{NoMemory}
use Rattle.request_stream.specs.Fronts.{BeginsWith, BeginsNone, GoesOn, IsFront}
use Rattle.request_stream.specs.Serving.{Moment, Serves}
use Rattle.request_stream.specs.Backlogs.{Come}
use Rattle.request_stream.specs.declared.front.Front.TheVariants.{More}

-- the most bytes of requests on a stream
abbrev pub stream_limit : ℕ
stream_limit = 1073741824

-- the most bytes that are read of a stream: one more than its requests may have
abbrev pub read_limit : ℕ
read_limit = 1073741825

-- how many bytes a request may have that begins at this byte
abbrev pub room_at : ℕ → ℕ
room_at at = stream_limit - at

-- the bytes begin with a request of which this holds
pub record Next (asks : List ℕ → Type 0) (room : ℕ) (bytes : List ℕ) (holds : List ℕ → Type 0)
    : Type 0 where
  pub size : ℕ
  pub begins : BeginsWith asks room bytes size
  pub does : holds (take size bytes)

-- every request that has come was replied to
abbrev pub HasReplied : {Server : Type 0} → (Server → List ℕ → Type 0) → Moment Server → Type 0
HasReplied asks m = IsFront (asks m.server) (room_at m.at) m.rest More

-- the source ended within a request, which begins at this byte
pub record IsTorn {Server : Type 0} (asks : Server → List ℕ → Type 0) (m : Moment Server) (at : ℕ)
    : Type 0 where
  pub place : at ≡ m.at
  pub some : 0 < length m.rest
  pub goes_on : GoesOn (asks m.server) (room_at m.at) m.rest
  pub at_end : IsAtEnd m.left

-- the bytes from this byte on begin no request, or one that the server refuses
pub record IsBadAt {Server : Type 0} (asks refuses : Server → List ℕ → Type 0) (m : Moment Server)
    (at : ℕ) : Type 0 where
  pub place : at ≡ m.at
  pub is_bad : BeginsNone (asks m.server) (room_at m.at) m.rest
      ⊎ Next (asks m.server) (room_at m.at) m.rest (refuses m.server)

-- a reply was written in part
pub record IsCut {Server : Type 0} (asks : Server → List ℕ → Type 0)
    (replies : Server → List ℕ → Server → List ℕ → Type 0) (m : Moment Server) (after : Server)
    (held : Option (List ℕ)) : Type 0 where
  pub reply : List ℕ
  pub replied : Next (asks m.server) (room_at m.at) m.rest (λ r. replies m.server r after reply)
  pub front : AppendsFront m.held held reply

-- the server is as it was, or as the next request, which it doesn't reply to, leaves it
abbrev pub IsLeft : {Server : Type 0} → (Server → List ℕ → Type 0)
    → (Server → List ℕ → Server → Type 0) → Moment Server → Server → Type 0
IsLeft asks leaves m after = (after ≡ m.server)
    ⊎ Next (asks m.server) (room_at m.at) m.rest (λ r. leaves m.server r after)

-- why a session stops at this moment, with this server and this sink afterwards
abbrev pub Stops : {Server : Type 0} → (Server → List ℕ → Type 0)
    → (Server → List ℕ → Server → List ℕ → Type 0) → (Server → List ℕ → Type 0)
    → (Server → List ℕ → Type 0) → (Server → List ℕ → Server → Type 0) → Moment Server → ServeStop
    → Server → Option (List ℕ) → Type 0
Stops asks replies refuses is_full leaves m (Torn at) after held =
    IsTorn asks m at × (after ≡ m.server) × (held ≡ m.held)
Stops asks replies refuses is_full leaves m (BadStream at) after held =
    IsBadAt asks refuses m at × IsLeft asks leaves m after × (held ≡ m.held)
Stops asks replies refuses is_full leaves m Full after held =
    Next (asks m.server) (room_at m.at) m.rest (is_full m.server)
    × IsLeft asks leaves m after × (held ≡ m.held)
Stops asks replies refuses is_full leaves m ReadFault after held =
    HasReplied asks m × (after ≡ m.server) × (held ≡ m.held)
Stops asks replies refuses is_full leaves m WriteFault after held = IsCut asks replies m after held
Stops asks replies refuses is_full leaves m NoMemory after held =
    IsLeft asks leaves m after × (held ≡ m.held)

-- a session that began so came to its last moment, and stopped there
pub record Stopped {Server : Type 0} (asks : Server → List ℕ → Type 0)
    (replies : Server → List ℕ → Server → List ℕ → Type 0)
    (refuses is_full : Server → List ℕ → Type 0) (leaves : Server → List ℕ → Server → Type 0)
    (first : Moment Server) (stop : ServeStop)
    (after : Server) (left held : Option (List ℕ)) : Type 0 where
  pub last : Moment Server
  pub serves : Serves asks replies first last
  pub within : last.at ≤ stream_limit
  -- no more was read than one byte past the limit
  pub few : last.at + length last.rest ≤ read_limit
  pub source : last.left ≡ left
  pub stops : Stops asks replies refuses is_full leaves last stop after held

-- the source ended between two requests, and each was replied to
pub record Done {Server : Type 0} (asks : Server → List ℕ → Type 0)
    (replies : Server → List ℕ → Server → List ℕ → Type 0) (first : Moment Server)
    (after : Server) (left held : Option (List ℕ)) : Type 0 where
  pub at : ℕ
  pub serves : Serves asks replies first
      (record { server = after; at = at; rest = []; left = left; held = held })
  pub within : at ≤ stream_limit
  pub at_end : IsAtEnd left

-- the source counted a fault exactly where the session stopped at a read
abbrev pub CountsReads : Option ℕ → Result (Unit {0}) ServeStop → ℕ → ℕ → Type 0
CountsReads last (Err ReadFault) old new = HasFaulted last old new
CountsReads last _ old new = new ≡ old

-- the sink counted one exactly where it stopped at a write
abbrev pub CountsWrites : Option ℕ → Result (Unit {0}) ServeStop → ℕ → ℕ → Type 0
CountsWrites last (Err WriteFault) old new = HasFaulted last old new
CountsWrites last _ old new = new ≡ old

-- a moment, of what has come
abbrev pub moment : {Server : Type 0} → Server → Come → Option (List ℕ) → Option (List ℕ)
    → Moment Server
moment s come left held =
    record { server = s; at = come.at; rest = come.rest; left = left; held = held }

-- the moment at which a session begins
abbrev pub first : {Server : Type 0} → Server → Option (List ℕ) → Option (List ℕ) → Moment Server
first s left held = record { server = s; at = 0; rest = []; left = left; held = held }
