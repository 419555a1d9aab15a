-- The answers to a whole stream, as far as its bytes decide them.
use Rattle.std.specs.Prelude.{◌≡◌, ℕ, ◌+◌, ◌≤◌, ◌⊎◌, List, [], ◌++◌, length, Option, Result, Ok}
use Rattle.std.specs.Prelude.{Err}
use Rattle.std.specs.Io.KnownBytes.{Appends}
use Rattle.request_stream.specs.declared.stop.ServeStop.{ServeStop}
use Rattle.request_stream.specs.declared.stop.ServeStop.TheVariants.{Torn, BadStream}
use Rattle.request_stream.specs.Ending.{Next, room_at, stream_limit}
use Rattle.request_stream.specs.Fronts.{BeginsNone, GoesOn}
use Rattle.request_stream.specs.Laws.{NoneGoesOn}
use Rattle.request_stream.specs.Serving.{Exchange, AreServed, asked, said, server_after}

-- the session ended by its bytes alone: no read or write failed, memory wasn't refused, and the
-- server wasn't full
abbrev pub EndsItself : Result (Unit {0}) ServeStop → Type 0
EndsItself (Ok done) = Unit {0}
EndsItself (Err (Torn at)) = Unit {0}
EndsItself (Err (BadStream at)) = Unit {0}
EndsItself _ = ⊥

-- what stands behind the last request that is replied to, which ends at this byte: nothing; a
-- proper front of a request; or what begins no request, or one that the server refuses
abbrev pub EndsBy : {Server : Type 0} → (Server → List ℕ → Type 0) → (Server → List ℕ → Type 0)
    → Server → ℕ → List ℕ → Result (Unit {0}) ServeStop → Type 0
EndsBy asks refuses s at rest (Ok done) = rest ≡ []
EndsBy asks refuses s at rest (Err (Torn place)) =
    (place ≡ at) × (rest ≡ [] → ⊥) × GoesOn (asks s) (room_at at) rest
EndsBy asks refuses s at rest (Err (BadStream place)) =
    (place ≡ at)
    × (BeginsNone (asks s) (room_at at) rest ⊎ Next (asks s) (room_at at) rest (refuses s))
EndsBy asks refuses s at rest _ = ⊥

-- THE ANSWERS TO THE BYTES OF A WHOLE STREAM that begin at this byte: the requests that they begin
-- with, each with its reply, and how what is behind them ends the session
pub record AreAnswers {Server : Type 0} (asks : Server → List ℕ → Type 0)
    (replies : Server → List ℕ → Server → List ℕ → Type 0) (refuses : Server → List ℕ → Type 0)
    (at : ℕ) (s : Server) (bytes : List ℕ) (result : Result (Unit {0}) ServeStop)
    (exchanges : List (Exchange Server)) : Type 0 where
  pub rest : List ℕ
  pub cut : bytes ≡ asked exchanges ++ rest
  pub served : AreServed asks replies s exchanges
  pub within : at + length (asked exchanges) ≤ stream_limit
  pub ends :
      EndsBy asks refuses (server_after s exchanges) (at + length (asked exchanges)) rest result

-- a session over these bytes ended so, and the sink grew by exactly the replies
pub record Answered {Server : Type 0} (asks : Server → List ℕ → Type 0)
    (replies : Server → List ℕ → Server → List ℕ → Type 0) (refuses : Server → List ℕ → Type 0)
    (s : Server) (bytes : List ℕ) (result : Result (Unit {0}) ServeStop)
    (held new : Option (List ℕ)) : Type 0 where
  pub exchanges : List (Exchange Server)
  pub are : AreAnswers asks replies refuses 0 s bytes result exchanges
  pub replied : Appends held new (said exchanges)

-- what a server makes of a request is one thing: no request is empty, none is a proper front of
-- another, each has one reply, and a request that is replied to isn't refused
pub record IsDecided {Server : Type 0} (asks : Server → List ℕ → Type 0)
    (replies : Server → List ℕ → Server → List ℕ → Type 0) (refuses : Server → List ℕ → Type 0)
    : Type 0 where
  pub some : (s : Server) → ¬ asks s []
  pub alone : (s : Server) → NoneGoesOn (asks s)
  pub one_server :
      (s t u : Server) (request one two : List ℕ) → replies s request t one
      → replies s request u two → t ≡ u
  pub one_reply :
      (s t u : Server) (request one two : List ℕ) → replies s request t one
      → replies s request u two → one ≡ two
  pub apart :
      (s t : Server) (request reply : List ℕ) → replies s request t reply → ¬ refuses s request

-- the bytes of a stream have one end and one list of answers
pub record HasOneAnswer {Server : Type 0} (asks : Server → List ℕ → Type 0)
    (replies : Server → List ℕ → Server → List ℕ → Type 0) (refuses : Server → List ℕ → Type 0)
    (s : Server) (bytes : List ℕ) : Type 0 where
  pub one_end :
      (result other : Result (Unit {0}) ServeStop) (exchanges others : List (Exchange Server))
      → AreAnswers asks replies refuses 0 s bytes result exchanges
      → AreAnswers asks replies refuses 0 s bytes other others → result ≡ other
  pub one_list :
      (result other : Result (Unit {0}) ServeStop) (exchanges others : List (Exchange Server))
      → AreAnswers asks replies refuses 0 s bytes result exchanges
      → AreAnswers asks replies refuses 0 s bytes other others → exchanges ≡ others
