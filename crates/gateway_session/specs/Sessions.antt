-- How a session of a gateway over a stream goes.
use Rattle.std.specs.Prelude.{ℕ, List, Option, Result, Ok, Err}
use Rattle.request_stream.specs.declared.stop.ServeStop.{ServeStop}
use Rattle.request_stream.specs.Ending.{Done, Stopped, first}
use Rattle.gateway_core.specs.Handling.{GateState}
use Rattle.gateway_session.specs.Replying.{Asks, FillsUp, Leaves, Refuses, Replies}

-- A SESSION WAS DONE, OR STOPPED, and left the gateway so: each request was replied to, one after
-- the other, and the sink grew by exactly the replies, or by a front of the last one where the stop
-- is a write's. A stop leaves of the next request what it leaves
abbrev pub IsServed : Result (Unit {0}) ServeStop → GateState → GateState → Option (List ℕ)
    → Option (List ℕ) → Option (List ℕ) → Option (List ℕ) → Type 0
IsServed (Ok done) old after left rest held new =
    Done Asks Replies (first old left held) after rest new
IsServed (Err stop) old after left rest held new =
    Stopped Asks Replies Refuses FillsUp Leaves (first old left held) stop after rest new
