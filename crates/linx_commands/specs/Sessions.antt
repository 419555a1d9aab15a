-- What the program does over its streams: as an echo, and as a gateway.
use Rattle.std.specs.Prelude.{◌≡◌, ◌≢◌, ◌⊎◌, ℕ, List, Option, Result, Ok, Err, IfErr, IfSome}
use Rattle.journal.specs.Logs.{Log}
use Rattle.tcpcm_frames.specs.Frames.{IsSpelled}
use Rattle.request_stream.specs.Answers.{Answered, EndsItself}
use Rattle.request_stream.specs.Ending.{CountsReads, CountsWrites}
use Rattle.request_stream.specs.declared.stop.ServeStop.{ServeStop}
use Rattle.request_stream.specs.declared.stop.ServeStop.TheVariants as stops
use Rattle.stream_echo.specs.Replying.{Echoes, Refuses, new_echo}
use Rattle.stream_echo.specs.Sessions.{IsEchoed}
use Rattle.gateway_core.specs.Handling.{GateState, first_state}
use Rattle.gateway_session.specs.Replying.{Asks, Refuses as RefusesNone, Replies}
use Rattle.gateway_session.specs.Sessions.{IsServed as IsServedBy}
use Rattle.gateway_session.specs.Whole.{IsWhole}
use Rattle.linx_commands.specs.Runs.{IsEmptyLog}
use Rattle.linx_commands.specs.declared.outcome.Status.{Status}
use Rattle.linx_commands.specs.declared.outcome.Status.TheVariants.{Done, ReadFault, WriteFault}
use Rattle.linx_commands.specs.declared.outcome.Status.TheVariants.{Torn, BadStream, NoMemory}
use Rattle.linx_commands.specs.declared.outcome.Status.TheVariants.{JournalFull}

-- the status of a session over a stream, which an echo is never too full for
abbrev pub session_status : Result (Unit {0}) ServeStop → Status
session_status (Ok done) = Done
session_status (Err (stops.Torn at)) = Torn at
session_status (Err (stops.BadStream at)) = BadStream at
session_status (Err stops.Full) = NoMemory
session_status (Err stops.ReadFault) = ReadFault
session_status (Err stops.WriteFault) = WriteFault
session_status (Err stops.NoMemory) = NoMemory

-- A SESSION OF AN ECHO over these streams ended so: the sink grew by exactly what is said to the
-- frames that were read, in whatever pieces they came
pub record IsSession {S K : Type 0} (left : S → Option (List ℕ)) (reads : S → ℕ)
    (last_read : Option ℕ) (is_faultless : S → Type 0) (held : K → Option (List ℕ))
    (writes : K → ℕ) (last_write : Option ℕ) (source rest : S) (sink grown : K) (status : Status)
    (log : Log) : Type 0 where
  -- how it ended, which the status tells
  pub ended : Result (Unit {0}) ServeStop
  pub told : status ≡ session_status ended
  pub never_full : IfErr ended (λ stop. stop ≢ stops.Full)
  -- where the source told its bytes and these ended it, the answers are those to them
  pub answers : IfSome (left source) (λ bytes. EndsItself ended
      → Answered (λ _ bytes. IsSpelled bytes) Echoes Refuses new_echo bytes ended (held sink)
      (held grown))
  -- how every session goes, and why it ends
  pub echoed : IsEchoed ended (left source) (left rest) (held sink) (held grown)
  -- the source counted a fault exactly where a read ended it, and the sink where a write did
  pub read_faults : CountsReads last_read ended (reads source) (reads rest)
  pub write_faults : CountsWrites last_write ended (writes sink) (writes grown)
  -- no read of a source without faults ends it
  pub faultless : is_faultless source → is_faultless rest
      × IfErr ended (λ stop. stop ≢ stops.ReadFault)
  -- there is no run
  pub empty : IsEmptyLog log

-- the status of a session of a gateway
abbrev pub gateway_status : Result (Unit {0}) ServeStop → Status
gateway_status (Ok done) = Done
gateway_status (Err (stops.Torn at)) = Torn at
gateway_status (Err (stops.BadStream at)) = BadStream at
gateway_status (Err stops.Full) = JournalFull
gateway_status (Err stops.ReadFault) = ReadFault
gateway_status (Err stops.WriteFault) = WriteFault
gateway_status (Err stops.NoMemory) = NoMemory

-- A SESSION OF A GATEWAY over these streams ended so: the sink grew by exactly the replies to the
-- requests that were read, and the journal is that of what they made
pub record IsGatewaySession {S K : Type 0} (clients : ℕ) (left : S → Option (List ℕ))
    (reads : S → ℕ) (last_read : Option ℕ) (is_faultless : S → Type 0)
    (held : K → Option (List ℕ)) (writes : K → ℕ) (last_write : Option ℕ) (source rest : S)
    (sink grown : K) (status : Status) (log : Log) : Type 0 where
  -- how it ended, which the status tells
  pub ended : Result (Unit {0}) ServeStop
  pub told : status ≡ gateway_status ended
  -- the gateway that it left
  pub after : GateState
  pub made : log ≡ after.layout.log
  -- where the source told its bytes and these ended it, the replies are those to them
  pub answers : IfSome (left source) (λ bytes. EndsItself ended
      → Answered Asks Replies RefusesNone (first_state clients) bytes ended (held sink)
      (held grown))
  -- how every session goes, and why it ends
  pub served : IsServedBy ended (first_state clients) after (left source) (left rest) (held sink)
      (held grown)
  -- the journal is the steps of the requests that were handled, and then those of the one that was
  -- stopped; and no timer's signal was sent twice
  pub whole : IsWhole (first_state clients) after
  -- the source counted a fault exactly where a read ended it, and the sink where a write did
  pub read_faults : CountsReads last_read ended (reads source) (reads rest)
  pub write_faults : CountsWrites last_write ended (writes sink) (writes grown)
  -- no read of a source without faults ends it
  pub faultless : is_faultless source → is_faultless rest
      × IfErr ended (λ stop. stop ≢ stops.ReadFault)

-- a session of a gateway ended so, or memory was refused before the first read
abbrev pub IsGatewayOf : {S K : Type 0} → ℕ → (S → Option (List ℕ)) → (S → ℕ) → Option ℕ
    → (S → Type 0) → (K → Option (List ℕ)) → (K → ℕ) → Option ℕ → S → S → K → K → Status → Log
    → Type 0
IsGatewayOf clients left reads last_read is_faultless held writes last_write source rest sink grown
    status log =
    ((status ≡ NoMemory) × IsEmptyLog log × (rest ≡ source) × (grown ≡ sink))
    ⊎ IsGatewaySession clients left reads last_read is_faultless held writes last_write source rest
    sink grown status log
