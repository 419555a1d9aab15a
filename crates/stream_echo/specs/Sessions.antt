-- How an echo's session over a stream goes.
use Rattle.std.specs.Prelude.{ℕ, List, Option, Result, Ok, Err}
use Rattle.request_stream.specs.declared.stop.ServeStop.{ServeStop}
use Rattle.request_stream.specs.Ending.{Done, Stopped, first}
use Rattle.tcpcm_frames.specs.Frames.{IsSpelled}
use Rattle.stream_echo.specs.Replying.{EchoState, Echoes, Refuses, new_echo}

-- a session was done, or stopped: each frame was answered, and the sink grew by exactly the answers,
-- or by a front of the last one where the stop is a write's
abbrev pub IsEchoed : Result (Unit {0}) ServeStop → Option (List ℕ) → Option (List ℕ)
    → Option (List ℕ) → Option (List ℕ) → Type 0
IsEchoed (Ok done) left rest held new =
    (after : EchoState)
    × Done (λ _ bytes. IsSpelled bytes) Echoes (first new_echo left held) after rest new
IsEchoed (Err stop) left rest held new =
    (after : EchoState)
    × Stopped (λ _ bytes. IsSpelled bytes) Echoes Refuses (λ _ _. ⊥) (λ _ _ _. Unit {0})
    (first new_echo left held) stop after rest new
