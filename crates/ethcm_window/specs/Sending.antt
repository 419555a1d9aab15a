-- What a sender is seen as, and which of its frames are in the window.
use Rattle.std.specs.Prelude.{ℕ, suc, ◌+◌, ◌-◌, ◌≤◌, ◌++◌, min, nat_le, ◌&&◌, if◌then◌else◌, List}
use Rattle.std.specs.Prelude.{[], ◌∷◌, length, take, drop, filter}
use Rattle.linx_base.specs.declared.frame.Frame.{Frame}
use Rattle.linx_base.specs.declared.frame.SentFrame.{SentFrame}

-- a sender: its window in frames, the number of the first frame that isn't acknowledged, and the
-- frames from it on
pub record Sender : Type 0 where
  pub window : ℕ
  pub base : ℕ
  pub frames : List Frame

-- how many numbers a session has for frames, from 0 on
abbrev pub number_limit : ℕ
number_limit = 4294967295

-- a sender in a session that begins
abbrev pub empty_sender : ℕ → Sender
empty_sender window = record { window = window; base = 0; frames = [] }

-- each frame of a sender has a number
abbrev pub HasNumbers : Sender → Type 0
HasNumbers tx = tx.base + length tx.frames ≤ number_limit

-- how many numbers are left to give to frames
abbrev pub left_of : Sender → ℕ
left_of tx = number_limit - (tx.base + length tx.frames)

-- a frame with its number
abbrev pub sent_frame : ℕ → Frame → SentFrame
sent_frame n f = record { number = n; frame = f }

-- these frames with their numbers, from n on
unfoldable pub numbered_from : ℕ → List Frame → List SentFrame
numbered_from n [] = []
numbered_from n (f ∷ fs) = sent_frame n f ∷ numbered_from (suc n) fs

-- how many frames are sent and not acknowledged: as many as the window holds
abbrev pub sent_of : Sender → ℕ
sent_of tx = min (length tx.frames) tx.window

-- the number after the last one that was sent
abbrev pub sent_end : Sender → ℕ
sent_end tx = tx.base + sent_of tx

-- the frames that are sent and not acknowledged, with their numbers
abbrev pub unacknowledged : Sender → List SentFrame
unacknowledged tx = numbered_from tx.base (take tx.window tx.frames)

-- those of some frames whose number is at least n
abbrev pub from_number : ℕ → List SentFrame → List SentFrame
from_number n sent = filter (λ s. nat_le n s.number) sent

-- the frames that come into the window as a sender changes: none of them was sent before
abbrev pub coming_in : Sender → Sender → List SentFrame
coming_in old new = from_number (sent_end old) (unacknowledged new)

-- a sender with more frames at its end
abbrev pub with_frames : Sender → List Frame → Sender
with_frames tx frames = record tx { frames = tx.frames ++ frames }

-- a sender after an acknowledgement of all numbers below `next`, which must be of frames that were
-- sent
abbrev pub after_ack : Sender → ℕ → Sender
after_ack tx next =
    if nat_le tx.base next && nat_le next (sent_end tx)
    then record tx { base = next; frames = drop (next - tx.base) tx.frames }
    else tx

-- the frames to send again: the unacknowledged ones from `next` on, at most `count` of them
abbrev pub sent_again : Sender → ℕ → ℕ → List SentFrame
sent_again tx next count = take count (from_number next (unacknowledged tx))
