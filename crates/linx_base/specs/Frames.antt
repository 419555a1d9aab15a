-- The bounds of the pieces that messages go in.
use Rattle.std.specs.Prelude.{◌≡◌, ℕ, ◌^◌, ◌<◌, ◌≤◌, Bool, List, length, MatchBool}
use Rattle.linx_base.specs.declared.frame.Frame.{Frame}
use Rattle.linx_base.specs.declared.frame.Frame.TheVariants.{First, Next}
use Rattle.linx_base.specs.declared.frame.Message.{Message}

-- the most bytes of a message's body
abbrev pub body_limit : ℕ
body_limit = 65536

-- the most bytes of a piece
abbrev pub payload_limit : ℕ
payload_limit = 8192

-- a piece has 1 to 8,192 bytes
abbrev pub IsPayload : List ℕ → Type 0
IsPayload payload = (1 ≤ length payload) × (length payload ≤ payload_limit)

-- a message has a body of 1 to 65,536 bytes
abbrev pub IsMessage : Message → Type 0
IsMessage m = (1 ≤ length m.body) × (length m.body ≤ body_limit)

-- a first piece is shorter than the whole body, of 1 to 65,536 bytes, where more follow, and else
-- is the whole body
abbrev pub IsFrame : Frame → Type 0
IsFrame (First more from to size payload) =
    IsPayload payload × (1 ≤ size) × (size ≤ body_limit)
    × MatchBool more (length payload < size) (length payload ≡ size)
IsFrame (Next more payload) = IsPayload payload

-- the numbers of a frame fit their fields
abbrev pub FitsFrame : Frame → Type 0
FitsFrame (First more from to size payload) = (from < 2 ^ 32) × (to < 2 ^ 32)
FitsFrame (Next more payload) = Unit {0}

-- the bytes that a frame carries
abbrev pub payload_of : Frame → List ℕ
payload_of (First more from to size payload) = payload
payload_of (Next more payload) = payload

-- whether further frames of its message follow a frame
abbrev pub has_more : Frame → Bool
has_more (First more from to size payload) = more
has_more (Next more payload) = more
