-- What holds of an end, so that all that it sends are packets.
use Rattle.std.specs.Prelude.{ℕ, ◌^◌, ◌<◌, ◌≤◌, All}
use Rattle.std.specs.Option.{ForSome}
use Rattle.linx_base.specs.declared.identity.Session.{Session}
use Rattle.linx_base.specs.declared.frame.Message.{Message}
use Rattle.linx_base.specs.Frames.{FitsFrame, IsFrame, payload_limit}
use Rattle.linx_base.specs.Numbers.{IsNumbered}
use Rattle.ethcm_headers.specs.Packets.{IsPacket}
use Rattle.ethcm_session.specs.declared.standing.TalkState.{TalkState}
use Rattle.ethcm_session.specs.Table.{standing_peer}
use Rattle.ethcm_window.specs.Sending.{HasNumbers, Sender, number_limit}
use Rattle.ethcm_window.specs.Receiving.{KeepsInOrder, Receiver}
use Rattle.ethcm_session.specs.Loss.{lost_at}
use Rattle.ethcm_end.specs.States.{EndState}

-- a session of 64 bits that isn't the unknown one
abbrev pub IsKnown : Session → Type 0
IsKnown session = (0 < session.0) × (session.0 < 2 ^ 64)

-- pieces have 64 to 8,192 bytes
abbrev pub IsPiece : ℕ → Type 0
IsPiece piece = (64 ≤ piece) × (piece ≤ payload_limit)

-- the numbers of a message fit their fields
abbrev pub FitsMessage : Message → Type 0
FitsMessage m = (m.from < 2 ^ 32) × (m.to < 2 ^ 32)

-- a session that has a boot number and a count from 1, and a known peer where it is up
pub record IsSoundTalk (talk : TalkState) : Type 0 where
  pub numbered : IsNumbered talk.mine
  pub mine : IsKnown talk.mine
  pub peer : ForSome (standing_peer talk.standing) IsKnown

-- the frames that a sender has are pieces of messages, whose numbers fit their fields, and each has
-- a number
pub record IsSoundSender (tx : Sender) : Type 0 where
  pub frames : All IsFrame tx.frames
  pub fitting : All FitsFrame tx.frames
  pub given : HasNumbers tx

-- a receiver that keeps frames in order of their numbers, none below the expected one
pub record IsSoundReceiver (rx : Receiver) : Type 0 where
  pub expected : rx.expected ≤ number_limit
  pub in_order : KeepsInOrder rx.expected rx.kept

-- an end whose numbers are within their bounds
pub record IsSoundEnd (s : EndState) : Type 0 where
  pub talk : IsSoundTalk s.talk
  pub tx : IsSoundSender s.tx
  pub rx : IsSoundReceiver s.rx
  pub ticks : s.ticks < lost_at
  pub piece : IsPiece s.piece
  -- all that is still to go out are packets
  pub out : All IsPacket s.out
