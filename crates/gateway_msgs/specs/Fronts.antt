-- What the bytes of a stream begin with.
use Rattle.std.specs.Prelude.{ℕ, ◌<◌, ◌≤◌, List, ◌++◌, length, take}
use Rattle.gateway_msgs.specs.declared.request.Request.{Request}
use Rattle.gateway_msgs.specs.declared.front.Front.{Front}
use Rattle.gateway_msgs.specs.declared.front.Front.TheVariants.{Whole, More, Bad}
use Rattle.gateway_msgs.specs.Requests.{Spells}

-- the bytes are a request, with so many clients
pub record IsRequest (clients : ℕ) (bytes : List ℕ) : Type 0 where
  pub client : ℕ
  pub request : Request
  pub spells : Spells clients client request bytes

-- so many first bytes are a request of a gateway with so many clients, which fits the room
pub record BeginsWith (clients room : ℕ) (bytes : List ℕ) (size : ℕ) : Type 0 where
  pub within : size ≤ length bytes
  pub fits : size ≤ room
  pub is_request : IsRequest clients (take size bytes)

-- the bytes are a proper front of a request that has room
pub record GoesOn (clients room : ℕ) (bytes : List ℕ) : Type 0 where
  pub missing : List ℕ
  pub some : 0 < length missing
  pub fits : length (bytes ++ missing) ≤ room
  pub is_request : IsRequest clients (bytes ++ missing)

-- the bytes begin no request that has room, however they go on
pub record BeginsNone (clients room : ℕ) (bytes : List ℕ) : Type 0 where
  pub no_whole : (size : ℕ) → ¬ BeginsWith clients room bytes size
  pub no_more : ¬ GoesOn clients room bytes

-- what the bytes begin with, where a request may have so many bytes
abbrev pub IsFront : ℕ → ℕ → List ℕ → Front → Type 0
IsFront clients room bytes (Whole size) = BeginsWith clients room bytes size
IsFront clients room bytes More = GoesOn clients room bytes
IsFront clients room bytes Bad = BeginsNone clients room bytes
