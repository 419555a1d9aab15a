-- What a joiner answers to a frame, and what it holds then.
use Rattle.std.specs.Prelude.{◌≢◌, ℕ, ◌+◌, ◌<◌, ◌≤◌, ◌==◌, nat_lt, if◌then◌else◌, Bool, true, false}
use Rattle.std.specs.Prelude.{Option, None, Some, List, [], ◌∷◌, ◌++◌, length}
use Rattle.std.specs.Option.{ForSome}
use Rattle.linx_base.specs.declared.frame.Message.{Message}
use Rattle.linx_base.specs.declared.frame.Frame.{Frame}
use Rattle.linx_base.specs.declared.frame.Frame.TheVariants.{First, Next}
use Rattle.linx_base.specs.Frames.{has_more}
use Rattle.fragmenter.specs.declared.joiner.Joined.{Joined}
use Rattle.fragmenter.specs.declared.joiner.Joined.TheVariants.{More, Whole, Broken}

-- a message of which the first pieces have come: its addresses, the size of its whole body, and the
-- bytes so far
pub record Begun : Type 0 where
  pub from : ℕ
  pub to : ℕ
  pub size : ℕ
  pub bytes : List ℕ

-- the message so far with the payload of a frame; none where a first frame comes inside a message
-- or a next one outside
abbrev pub extended : Option Begun → Frame → Option Begun
extended None (First more from to size payload) =
    Some (record { from = from; to = to; size = size; bytes = payload })
extended None (Next more payload) = None
extended (Some b) (First more from to size payload) = None
extended (Some b) (Next more payload) = Some (record b { bytes = b.bytes ++ payload })

-- a message that has begun lacks bytes
abbrev pub LacksBytes : Option Begun → Type 0
LacksBytes begun = ForSome begun (λ b. length b.bytes < b.size)

-- the message that is whole once its bytes are as many as its size
abbrev pub message_of : Begun → Message
message_of b = record { from = b.from; to = b.to; body = b.bytes }

-- the answer to the message so far: with more to come it must be short of its size, and else
-- complete
abbrev pub judged : Option Begun → Bool → Joined
judged None more = Broken
judged (Some b) true = if nat_lt (length b.bytes) b.size then More else Broken
judged (Some b) false = if length b.bytes == b.size then Whole (message_of b) else Broken

-- what stays of the message so far: it stays while it lacks bytes and more is to come
abbrev pub staying : Option Begun → Bool → Option Begun
staying None more = None
staying (Some b) true = if nat_lt (length b.bytes) b.size then Some b else None
staying (Some b) false = None

-- what a joiner answers to a frame
abbrev pub joiner_answer : Option Begun → Frame → Joined
joiner_answer begun frame = judged (extended begun frame) (has_more frame)

-- what a joiner holds after a frame
abbrev pub held_after : Option Begun → Frame → Option Begun
held_after begun frame = staying (extended begun frame) (has_more frame)

-- with more to come the bytes reach the size, or the last leaves them another number
abbrev pub Misfits : ℕ → ℕ → Bool → Type 0
Misfits size total true = size ≤ total
Misfits size total false = total ≢ size

-- a frame breaks the message so far: a first frame inside a message, a next one outside, or bytes
-- that don't fit the stated size
abbrev pub IsBroken : Option Begun → Frame → Type 0
IsBroken None (First more from to size payload) = Misfits size (length payload) more
IsBroken None (Next more payload) = Unit {0}
IsBroken (Some b) (First more from to size payload) = Unit {0}
IsBroken (Some b) (Next more payload) = Misfits b.size (length b.bytes + length payload) more

-- the answers to frames that come one after the other
unfoldable pub answers_to : Option Begun → List Frame → List Joined
answers_to begun [] = []
answers_to begun (f ∷ fs) = joiner_answer begun f ∷ answers_to (held_after begun f) fs

-- what a joiner holds after these frames
unfoldable pub held_after_all : Option Begun → List Frame → Option Begun
held_after_all begun [] = begun
held_after_all begun (f ∷ fs) = held_after_all (held_after begun f) fs

-- more at each frame but the last, and the whole message at the last
unfoldable pub whole_at_the_last : Message → List Frame → List Joined
whole_at_the_last m [] = []
whole_at_the_last m (f ∷ []) = Whole m ∷ []
whole_at_the_last m (f ∷ g ∷ fs) = More ∷ whole_at_the_last m (g ∷ fs)
