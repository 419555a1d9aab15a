-- Which requests there are, and the bytes that spell each. Numbers stand with their highest byte
-- first.
use Rattle.std.specs.Prelude.{◌≡◌, ℕ, ◌+◌, ◌^◌, ◌<◌, ◌≤◌, List, [], ◌∷◌, ◌++◌, length, IsTrue}
use Rattle.std.specs.List.{flat_map, AllByRecursion}
use Rattle.byteorder.specs.Endian.{big_bytes}
use Rattle.linx_base.specs.Content.{data_limit}
use Rattle.linx_base.specs.NameText.{is_name}
use Rattle.linx_base.specs.SigNotes.{SigNote}
use Rattle.gateway_msgs.specs.declared.request.Request.{Request}
use Rattle.gateway_msgs.specs.declared.request.Request.TheVariants as asks

-- the type of a request
abbrev pub type_of : Request → ℕ
type_of (asks.Open name) = 1
type_of asks.Close = 2
type_of (asks.Send to signal) = 3
type_of (asks.Receive count numbers) = 4
type_of (asks.Hunt name) = 5
type_of (asks.Attach peer) = 6
type_of (asks.Detach attach) = 7
type_of (asks.Timer delay signal) = 8
type_of (asks.Cancel reference) = 9
type_of (asks.Modify reference delay) = 10
type_of (asks.Clock moment) = 11

-- a signal to the end: its number and its data
abbrev pub signal_bytes : SigNote → List ℕ
signal_bytes signal = big_bytes 4 signal.number ++ signal.bytes

-- the body of a request
abbrev pub body_of : Request → List ℕ
body_of (asks.Open name) = name
body_of asks.Close = []
body_of (asks.Send to signal) = big_bytes 8 to.0 ++ signal_bytes signal
body_of (asks.Receive count numbers) = big_bytes 4 count ++ flat_map (big_bytes 4) numbers
body_of (asks.Hunt name) = name
body_of (asks.Attach peer) = big_bytes 8 peer.0
body_of (asks.Detach attach) = big_bytes 8 attach.0
body_of (asks.Timer delay signal) = big_bytes 4 delay ++ signal_bytes signal
body_of (asks.Cancel reference) = big_bytes 8 reference
body_of (asks.Modify reference delay) = big_bytes 8 reference ++ big_bytes 4 delay
body_of (asks.Clock moment) = big_bytes 8 moment

-- what stands behind the length: the type, the client, two zeros and the body
abbrev pub typed : ℕ → ℕ → List ℕ → List ℕ
typed type client body = type ∷ client ∷ 0 ∷ 0 ∷ body

-- the bytes of a request of a client: the length of what follows, and that
abbrev pub request_spelling : ℕ → Request → List ℕ
request_spelling client request =
    big_bytes 4 (length (body_of request) + 4) ++ typed (type_of request) client (body_of request)

-- a signal whose number and data fit
abbrev pub IsSignal : SigNote → Type 0
IsSignal signal = (signal.number < 2 ^ 32) × (length signal.bytes ≤ data_limit)

-- the numbers of a request fit their fields, its name is a name, and a filter has at most 64
abbrev pub FitsFields : Request → Type 0
FitsFields (asks.Open name) = IsTrue (is_name name)
FitsFields asks.Close = Unit {0}
FitsFields (asks.Send to signal) = (to.0 < 2 ^ 64) × IsSignal signal
FitsFields (asks.Receive count numbers) =
    (count < 2 ^ 32) × (length numbers ≤ 64) × AllByRecursion (λ n. n < 2 ^ 32) numbers
FitsFields (asks.Hunt name) = IsTrue (is_name name)
FitsFields (asks.Attach peer) = peer.0 < 2 ^ 64
FitsFields (asks.Detach attach) = attach.0 < 2 ^ 64
FitsFields (asks.Timer delay signal) = (delay < 2 ^ 32) × IsSignal signal
FitsFields (asks.Cancel reference) = reference < 2 ^ 64
FitsFields (asks.Modify reference delay) = (reference < 2 ^ 64) × (delay < 2 ^ 32)
FitsFields (asks.Clock moment) = moment < 2 ^ 64

-- who asks: a client, or for the clock nobody, which is 0
abbrev pub IsAsker : ℕ → ℕ → Request → Type 0
IsAsker clients client (asks.Clock moment) = client ≡ 0
IsAsker clients client _ = (0 < client) × (client ≤ clients)

-- the bytes are those of this request, with so many clients
pub record Spells (clients client : ℕ) (request : Request) (bytes : List ℕ) : Type 0 where
  pub asker : IsAsker clients client request
  pub fits : FitsFields request
  pub spelled : bytes ≡ request_spelling client request

-- the body is that of this request, which has this type
pub record IsBodyOf (type : ℕ) (body : List ℕ) (request : Request) : Type 0 where
  pub of_type : type_of request ≡ type
  pub spelled : body ≡ body_of request
  pub fits : FitsFields request
