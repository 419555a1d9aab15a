-- The frames that are kept and taken.
use Rattle.std.specs.Prelude.{◌≡◌, ◌≢◌, ℕ, ◌+◌, ◌<◌, ◌⊎◌, Option, Some, List, [], ◌∷◌, ◌++◌, length}
use Rattle.std.specs.Prelude.{All}
use Rattle.linx_base.specs.declared.frame.Frame.{Frame}
use Rattle.linx_base.specs.declared.frame.Message.{Message}
use Rattle.linx_base.specs.declared.frame.SentFrame.{SentFrame}
use Rattle.ethcm_headers.specs.declared.packets.Packet.{Packet}
use Rattle.ethcm_headers.specs.declared.packets.Part.TheVariants.{Piece}
use Rattle.ethcm_window.specs.Sending.{numbered_from, sent_frame}
use Rattle.ethcm_window.specs.Receiving.{Receiver, after_taking, kept_above, kept_early}
use Rattle.fragmenter.specs.declared.joiner.Joined.{Joined}
use Rattle.fragmenter.specs.declared.joiner.Joined.TheVariants.{More}
use Rattle.fragmenter.specs.Joining.{Begun, answers_to, held_after_all}
use Rattle.ethcm_end.specs.States.{EndState}
use Rattle.ethcm_end.specs.Rules.{Taken, input_of, offer_of, take_behind, take_frames, tick_of}
use Rattle.ethcm_end.specs.Rows.{IsBetween}
use Rattle.ethcm_end.specs.Sessions.{IsAnew}

-- each of these frames is the frame that f gives for its number
abbrev pub AreFrames : (ℕ → Option Frame) → List SentFrame → Type 0
AreFrames f sent = All (λ s. f s.number ≡ Some s.frame) sent

-- more at each frame but the last, and this at the last
unfoldable pub made_at_the_last : Joined → List Frame → List Joined
made_at_the_last made [] = []
made_at_the_last made (f ∷ []) = made ∷ []
made_at_the_last made (f ∷ g ∷ fs) = More ∷ made_at_the_last made (g ∷ fs)

-- A frame of the expected number is taken, and then kept ones in order: each is the frame of the
-- number that is expected then, and the joiner is given these frames and no other.
pub record TakesInTurn (rx : Receiver) (held : Option Begun) (frame : Frame) (taken : Taken)
    : Type 0 where
  -- the kept frames that are taken behind it: the first of those that are kept, with the numbers
  -- from the next one on; the rest stays
  pub behind : List Frame
  pub numbers :
      kept_above rx.expected rx.kept ≡ numbered_from (rx.expected + 1) behind ++ taken.rx.kept
  -- the expected number rises by how many were taken
  pub expected : taken.rx.expected ≡ rx.expected + (1 + length behind)
  pub joined : taken.held ≡ held_after_all held (frame ∷ behind)
  pub answers : answers_to held (frame ∷ behind) ≡ made_at_the_last taken.made (frame ∷ behind)
  -- where the last makes no message whole, the next frame isn't kept
  pub stops :
      taken.made ≡ More → (s : SentFrame) (kept : List SentFrame) → taken.rx.kept ≡ s ∷ kept
      → s.number ≢ taken.rx.expected
  -- where a function gives the frames by their numbers, it gives all that are taken, and those that
  -- stay
  pub named :
      (f : ℕ → Option Frame) → AreFrames f rx.kept → f rx.expected ≡ Some frame
      → AreFrames f (numbered_from rx.expected (frame ∷ behind)) × AreFrames f taken.rx.kept

-- nothing is kept or taken
pub record ReceivesNothing (old new : EndState) : Type 0 where
  pub receives : new.rx ≡ old.rx
  pub held : new.held ≡ old.held

-- the packet brings a piece from the peer's session to this one, above the expected number: it may
-- be kept, and none is taken
pub record KeepsEarly (old : EndState) (p : Packet) (new : EndState) : Type 0 where
  pub between : IsBetween old p
  pub next : ℕ
  pub n : ℕ
  pub frame : Frame
  pub piece : p.part ≡ Piece next n frame
  pub early : old.rx.expected < n
  pub receives :
      new.rx
      ≡ record old.rx { kept = kept_early old.rx.expected old.rx.kept (sent_frame n frame) }
  pub held : new.held ≡ old.held

-- the packet brings the piece of the expected number from the peer's session to this one: it is
-- taken, and those behind it
pub record TakesPiece (old : EndState) (p : Packet) (new : EndState) : Type 0 where
  pub between : IsBetween old p
  pub next : ℕ
  pub frame : Frame
  pub piece : p.part ≡ Piece next old.rx.expected frame
  pub receives : new.rx ≡ (take_frames old frame).rx
  pub held : new.held ≡ (take_frames old frame).held

-- what a packet lets an end keep and take
abbrev pub Receives : EndState → Packet → EndState → Type 0
Receives old p new =
    ReceivesNothing old new ⊎ (IsAnew new ⊎ (KeepsEarly old p new ⊎ TakesPiece old p new))

-- frames are taken in turn, and by the piece of the expected number alone
pub record FramesInTurn : Type 0 where
  pub takes :
      (rx : Receiver) (held : Option Begun) (frame : Frame)
      → TakesInTurn rx held frame (take_behind (after_taking rx) held frame)
  pub input : (s : EndState) (p : Packet) → Receives s p (input_of s p).state
  pub tick : (s : EndState) → ReceivesNothing s (tick_of s).state ⊎ IsAnew (tick_of s).state
  pub offer : (s : EndState) (m : Message) → ReceivesNothing s (offer_of s m)
